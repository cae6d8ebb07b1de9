-- What `build` gives for the bytes of a key file.
use Rattle.std.specs.Prelude.{◌≡◌, ℕ, List, length, sum_by, Some}
use Rattle.pthash.specs.Sizes.{table_size_of}
use Rattle.pilot_codecs.specs.declared.code.Encoding.{Encoding}
use Rattle.build_outcome.specs.Index.{PartData, IndexData}
use Rattle.command_words.specs.Options.{OptionsData}
use Rattle.index_text.specs.Text.{index_text, IsIndex}
use Rattle.pth_top.specs.Done.{Done, NewFileData}
use Rattle.pth_top.specs.Lists.{gives, index_in, IsIndexFor}
use Rattle.pth_top.specs.Texts.{summary}

-- the sizes of the tables of partitions, added up
abbrev pub tables_size : ℕ → List PartData → ℕ
tables_size alpha parts = sum_by (λ part. table_size_of part.n alpha) parts

-- the file of an index under a name, and its summary
abbrev pub index_file_of : List ℕ → Encoding → IndexData → Done
index_file_of name enc x = record {
  status = 0;
  text = summary x.n x.seed (tables_size x.shape.alpha x.parts) (length (index_text x enc));
  file = Some (record { name = name; bytes = index_text x enc });
}

-- what the bytes of a key file give, with this name for the index
abbrev pub build_result : List ℕ → OptionsData → List ℕ → Done
build_result name o bytes = gives (index_in o bytes) (index_file_of name o.enc)

-- bytes are the file of an index for the keys
pub record IsFileFor (o : OptionsData) (keys : List (List ℕ)) (bytes : List ℕ) : Type 0 where
  pub index : IndexData
  pub built : IsIndexFor o keys index
  pub text : IsIndex bytes index o.enc

-- a file has this name, and its bytes are those of an index for the keys
pub record IsIndexFile (name : List ℕ) (o : OptionsData) (keys : List (List ℕ)) (file : NewFileData) : Type 0 where
  pub named : file.name ≡ name
  pub for_keys : IsFileFor o keys file.bytes
