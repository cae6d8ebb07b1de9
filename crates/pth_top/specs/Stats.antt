-- What `stats` gives for the bytes of an index.
use Rattle.std.specs.Prelude.{ℕ, List, [], ◌++◌, length, codes, decimal, sum_by, Option, Some, None}
use Rattle.pthash.specs.declared.Map.{Map}
use Rattle.pthash.specs.Shapes.{ShapeData}
use Rattle.pilot_codecs.specs.declared.code.Encoding.{Encoding}
use Rattle.build_outcome.specs.Index.{KeyMarkData}
use Rattle.build_outcome.specs.Values.{part_size}
use Rattle.index_file.specs.Encoded.{EncodedIndex}
use Rattle.index_text.specs.Text.{index_text, version_of}
use Rattle.pth_top.specs.Done.{Done, said}
use Rattle.pth_top.specs.Lists.{gives}
use Rattle.pth_top.specs.Query.{index_read}
use Rattle.pth_top.specs.Texts.{encoding_name, line, map_name, word_of_mark}

-- a label and a number
abbrev pub number_line : List ℕ → ℕ → List ℕ
number_line label number = line (label ++ decimal number)

-- the version of the file, the seed, the number of keys, the shape, the number of partitions
unfoldable pub field_lines : ℕ → ℕ → ℕ → ShapeData → ℕ → List ℕ
field_lines version seed keys shape parts =
    number_line (codes "version ") version ++ number_line (codes "seed ") seed ++ number_line (codes "keys ") keys
    ++ number_line (codes "alpha ") shape.alpha ++ number_line (codes "c ") shape.c ++ number_line (codes "parts ") parts

-- the encoding of the pilots
unfoldable pub encoding_line : Encoding → List ℕ
encoding_line enc = line (codes "enc " ++ encoding_name enc)

-- the positions of all tables, the buckets, the entries of all free lists, the length of the file
unfoldable pub sum_lines : ℕ → ℕ → ℕ → ℕ → List ℕ
sum_lines size buckets free bytes =
    number_line (codes "size ") size ++ number_line (codes "buckets ") buckets
    ++ number_line (codes "free ") free ++ number_line (codes "bytes ") bytes

-- the mark of the keys, where the index has one
abbrev pub mark_lines : Option KeyMarkData → List ℕ
mark_lines None = []
mark_lines (Some mark) = line (word_of_mark (codes "mark ") mark)

-- how hashes are spread over buckets
unfoldable pub map_line : Map → List ℕ
map_line map = line (codes "map " ++ map_name map)

-- all lines on an index
unfoldable pub stats_text : EncodedIndex → List ℕ
stats_text x =
    field_lines (version_of x.index.mark) x.index.seed x.index.n x.index.shape (length x.index.parts)
    ++ encoding_line x.enc
    ++ sum_lines (sum_by part_size x.index.parts) (sum_by (λ p. length p.pilots) x.index.parts)
    (sum_by (λ p. length p.free) x.index.parts) (length (index_text x.index x.enc))
    ++ mark_lines x.index.mark ++ map_line x.index.shape.map

-- what an index gives
abbrev pub stats_of_index : EncodedIndex → Done
stats_of_index x = said 0 (stats_text x)

-- what the bytes of an index give
abbrev pub stats_result : List ℕ → Done
stats_result bytes = gives (index_read bytes) stats_of_index
