-- What `upgrade` gives for the bytes of an index and of a key file.
use Rattle.std.specs.Prelude.{ℕ, List, length, Option, Some, None}
use Rattle.build_outcome.specs.Index.{KeyMarkData}
use Rattle.index_file.specs.Encoded.{EncodedIndex, marked}
use Rattle.index_text.specs.Text.{index_text}
use Rattle.pth_top.specs.Check.{mark_in}
use Rattle.pth_top.specs.Done.{Done, said}
use Rattle.pth_top.specs.Lists.{gives}
use Rattle.pth_top.specs.Texts.{already_marked, upgraded}

-- the bytes of an index with this mark
abbrev pub marked_text : EncodedIndex → KeyMarkData → List ℕ
marked_text index mark = index_text (marked index.index mark) index.enc

-- the file of an index with this mark under a name, and what was written
abbrev pub marked_file_of : List ℕ → EncodedIndex → KeyMarkData → Done
marked_file_of name index mark = record {
  status = 0;
  text = upgraded index.index.n (length (marked_text index mark));
  file = Some (record { name = name; bytes = marked_text index mark });
}

-- an index that has a mark stays, and one that has none gets this one
abbrev pub upgraded_from : List ℕ → EncodedIndex → Option KeyMarkData → KeyMarkData → Done
upgraded_from name index (Some kept) mark = said 0 already_marked
upgraded_from name index None mark = marked_file_of name index mark

-- what the bytes of a key file give, with the name of the index
abbrev pub upgrade_result : List ℕ → EncodedIndex → List ℕ → Done
upgrade_result name index bytes = gives (mark_in index bytes) (upgraded_from name index index.index.mark)
