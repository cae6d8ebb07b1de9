-- The one spelling of a list of numbers under each code, and under a pair of codes.
use Rattle.std.specs.Prelude.{ℕ, zero, suc, ◌+◌, ◌-◌, ◌/◌, ◌^◌, ◌<◌, ◌≤◌, max, List, [], ◌∷◌, ◌++◌, length, map, take}
use Rattle.std.specs.Prelude.{drop, Option, Some, None, ◌==◌}
use Rattle.std.specs.Prelude.{if◌then◌else◌}
use Rattle.std.specs.List.{flat_map}
use Rattle.pthash.specs.Sizes.{front_count_of}
use Rattle.elias_fano.specs.Spelling.{number, run, log2_within, is_among, last_of, ef_text}
use Rattle.bit_vector.specs.Bits.{bits_of_each}
use Rattle.pilot_codecs.specs.declared.code.Code.{Code}
use Rattle.pilot_codecs.specs.declared.code.Code.TheVariants as codes
use Rattle.pilot_codecs.specs.declared.code.Encoding.{Encoding}
use Rattle.pilot_codecs.specs.declared.TheConstants.{GROUP}

-- the number of binary digits, at least 1
unfoldable pub digits_of : ℕ → ℕ
digits_of n = log2_within 63 n + 1

-- the greatest value, 0 if there is none
unfoldable pub greatest : List ℕ → ℕ
greatest [] = 0
greatest (v ∷ vs) = max v (greatest vs)

-- the width of the greatest value, then each value in so many bits
unfoldable pub compact_text : List ℕ → List ℕ
compact_text vs = number (digits_of (greatest vs)) ++ run (bits_of_each (digits_of (greatest vs)) vs)

-- how many groups a list is cut into
abbrev pub groups_for : ℕ → ℕ
groups_for count = (count + (GROUP - 1)) / GROUP

-- so many groups of a list, the last one shorter if need be
unfoldable pub groups_of : ℕ → List ℕ → List (List ℕ)
groups_of zero vs = []
groups_of (suc n) vs = take GROUP vs ∷ groups_of n (drop GROUP vs)

-- each group has a width of its own
unfoldable pub parted_text : List ℕ → List ℕ
parted_text vs = flat_map compact_text (groups_of (groups_for (length vs)) vs)

-- the numbers from a first one on, so many of them, that are among the values
unfoldable pub present_from : ℕ → ℕ → List ℕ → List ℕ
present_from at zero vs = []
present_from at (suc n) vs = if is_among at vs then at ∷ present_from (at + 1) n vs else present_from (at + 1) n vs

-- the values without repeats, rising
abbrev pub distinct : List ℕ → List ℕ
distinct vs = present_from 0 (greatest vs + 1) vs

-- the index of a value
unfoldable pub index_in : List ℕ → ℕ → ℕ
index_in [] v = 0
index_in (d ∷ ds) v = if d == v then 0 else index_in ds v + 1

-- the distinct values, then each value by its index among them
unfoldable pub dict_text : List ℕ → List ℕ
dict_text vs = number (length (distinct vs)) ++ flat_map number (distinct vs) ++ compact_text (map (index_in (distinct vs)) vs)

-- each value added to those before it
unfoldable pub sums_from : ℕ → List ℕ → List ℕ
sums_from before [] = []
sums_from before (v ∷ vs) = (before + v) ∷ sums_from (before + v) vs

-- the spelling under a code
abbrev pub code_text : Code → List ℕ → List ℕ
code_text codes.Compact vs = compact_text vs
code_text codes.Parted vs = parted_text vs
code_text codes.Dict vs = dict_text vs
code_text codes.EliasFano vs = ef_text (sums_from 0 vs)

-- the front part and the back part, or the whole list where there is no back code
abbrev pub split_text : Code → Option Code → List ℕ → List ℕ
split_text front None vs = code_text front vs
split_text front (Some back) vs = code_text front (take (front_count_of (length vs)) vs) ++ code_text back (drop (front_count_of (length vs)) vs)

-- the spelling under an encoding
abbrev pub pair_text : Encoding → List ℕ → List ℕ
pair_text enc vs = split_text enc.front enc.back vs

-- what has a spelling: 64-bit numbers, and for sums also these; at most 2 ^ 30 of them
abbrev pub Fits : Code → List ℕ → Type 0
Fits codes.EliasFano vs = (last_of 0 (sums_from 0 vs) < 2 ^ 64) × (length vs ≤ 2 ^ 30)
Fits codes.Compact vs = (greatest vs < 2 ^ 64) × (length vs ≤ 2 ^ 30)
Fits codes.Parted vs = (greatest vs < 2 ^ 64) × (length vs ≤ 2 ^ 30)
Fits codes.Dict vs = (greatest vs < 2 ^ 64) × (length vs ≤ 2 ^ 30)
