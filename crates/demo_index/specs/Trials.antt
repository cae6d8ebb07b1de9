-- What an index comes to under an encoding.
use Rattle.std.specs.Prelude.{ℕ, List, length, sum_by}
use Rattle.pilot_codecs.specs.declared.code.Encoding.{Encoding}
use Rattle.build_outcome.specs.Index.{IndexData}
use Rattle.build_outcome.specs.IndexLaws.{key_number}
use Rattle.index_text.specs.Text.{index_text}
use Rattle.demo_index.specs.declared.trial.Tried.{Tried}

-- the sum of the values of keys, 0 for a key that has none
unfoldable pub sum_of_values : IndexData → List (List ℕ) → ℕ
sum_of_values x keys = sum_by (key_number x) keys

-- an encoding with the length of the index's file in it and the sum of the values of keys
abbrev pub tried_of : IndexData → List (List ℕ) → Encoding → Tried
tried_of x keys enc = record { enc = enc; bytes = length (index_text x enc); sum = sum_of_values x keys }
