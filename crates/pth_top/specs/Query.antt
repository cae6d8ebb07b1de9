-- What `query` gives for the bytes of an index and of a file of queries.
use Rattle.std.specs.Prelude.{ℕ, List, [], ◌∷◌, ◌++◌, codes, decimal, Option, Some, None, Result, Ok, Err}
use Rattle.pthash.specs.declared.TheConstants.{MAX_KEYS}
use Rattle.pilot_codecs.specs.declared.code.Encoding.{Encoding}
use Rattle.build_outcome.specs.Index.{IndexData}
use Rattle.build_outcome.specs.Values.{value_of}
use Rattle.index_file.specs.Encoded.{EncodedIndex}
use Rattle.index_text.specs.declared.fault.IndexFault.{IndexFault}
use Rattle.index_text.specs.Reading.{index_at}
use Rattle.pth_top.specs.declared.TheConstants.{INDEX_REFUSED}
use Rattle.pth_top.specs.Done.{Done, said}
use Rattle.pth_top.specs.Lists.{gives, list_in}
use Rattle.pth_top.specs.Texts.{index_refused, line}

-- an index with this fault
abbrev pub faulty_result : IndexFault → Done
faulty_result fault = said INDEX_REFUSED (index_refused fault)

-- what was read, or the refusal of its fault
abbrev pub unless_faulty : Result (IndexData × Encoding) IndexFault → Result EncodedIndex Done
unless_faulty (Ok read) = Ok (record { index = read.0; enc = read.1 })
unless_faulty (Err fault) = Err (faulty_result fault)

-- the index that the bytes of a file are, or its refusal
abbrev pub index_read : List ℕ → Result EncodedIndex Done
index_read bytes = unless_faulty (index_at bytes)

-- the line of a query: its value, or a dash where it has none
abbrev pub value_line : Option ℕ → List ℕ
value_line (Some value) = line (decimal value)
value_line None = line (codes "-")

-- the lines of queries
abbrev pub value_lines : IndexData → List (List ℕ) → List ℕ
value_lines x [] = []
value_lines x (key ∷ keys) = value_line (value_of x key) ++ value_lines x keys

-- the values of queries
abbrev pub values_of : IndexData → List (List ℕ) → Done
values_of x keys = said 0 (value_lines x keys)

-- what the bytes of a file of queries give
abbrev pub query_result : EncodedIndex → List ℕ → Done
query_result index bytes = gives (list_in (codes "queries") MAX_KEYS bytes) (values_of index.index)
