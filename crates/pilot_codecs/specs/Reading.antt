-- Reading a spelling from the left, with the first fault that is met.
use Rattle.std.specs.Prelude.{ℕ, zero, suc, ◌+◌, ◌-◌, ◌*◌, ◌^◌, min, Bool, true, not, ◌&&◌, ◌||◌, List, [], ◌∷◌, ◌++◌}
use Rattle.std.specs.Prelude.{length, map, take, drop, slice_index}
use Rattle.std.specs.Prelude.{Option, Some, None, Result, Ok, Err, nat_lt, ◌==◌, if◌then◌else◌}
use Rattle.std.specs.List.{flat_map}
use Rattle.bit_vector.specs.Bits.{bits_of, number_of, words_number, words_for}
use Rattle.pthash.specs.Sizes.{front_count_of}
use Rattle.elias_fano.specs.declared.fault.FormFault.{FormFault}
use Rattle.elias_fano.specs.declared.fault.TheConstants.{SHORT, WIDTH, PADDING, ORDER, COUNT}
use Rattle.elias_fano.specs.Spelling.{is_among}
use Rattle.elias_fano.specs.Reading.{◌>>=◌, fault, number_at, words_in, list_at}
use Rattle.pilot_codecs.specs.declared.code.Code.{Code}
use Rattle.pilot_codecs.specs.declared.code.Code.TheVariants as codes
use Rattle.pilot_codecs.specs.declared.TheConstants.{GROUP}
use Rattle.pilot_codecs.specs.Spelling.{digits_of, greatest, groups_for}

-- so many numbers of so many bits each
unfoldable pub fields : ℕ → ℕ → List Bool → List ℕ
fields zero width bits = []
fields (suc n) width bits = number_of (take width bits) ∷ fields n width (drop width bits)

-- the numbers in the words that bytes begin with, whatever the unused bits are
abbrev pub fields_in : ℕ → ℕ → List ℕ → List ℕ
fields_in count width bytes = fields count width (bits_of (count * width) (words_number (words_in (words_for (count * width)) bytes)))

-- the values after a width: the words, then the width, then the unused bits
unfoldable pub packed_at : ℕ → ℕ → ℕ → List ℕ → Result (List ℕ × List ℕ) FormFault
packed_at at count width bytes =
    if nat_lt (length bytes) (8 * words_for (count * width)) then Err (fault (at + 8) SHORT)
    else (if not (digits_of (greatest (fields_in count width bytes)) == width) then Err (fault at WIDTH)
    else (if nat_lt (words_number (words_in (words_for (count * width)) bytes)) (2 ^ (count * width)) then Ok (
      fields_in count width bytes,
      drop (8 * words_for (count * width)) bytes,
    )
    else Err (fault (at + 8 + 8 * words_for (count * width) - 8) PADDING)))

unfoldable pub compact_at : ℕ → ℕ → List ℕ → Result (List ℕ × List ℕ) FormFault
compact_at at count bytes = do
  width ← number_at at bytes
  if (width.0 == 0) || nat_lt 64 width.0 then Err (fault at WIDTH) else packed_at at count width.0 width.1

-- so many groups, one after the other
unfoldable pub groups_at : ℕ → ℕ → ℕ → List ℕ → Result (List (List ℕ) × List ℕ) FormFault
groups_at zero at count bytes = Ok ([], bytes)
groups_at (suc n) at count bytes = do
  first ← compact_at at (min GROUP count) bytes
  others ← groups_at n (at + (length bytes - length first.1)) (count - GROUP) first.1
  Ok (first.0 ∷ others.0, others.1)

unfoldable pub parted_at : ℕ → ℕ → List ℕ → Result (List ℕ × List ℕ) FormFault
parted_at at count bytes = do
  groups ← groups_at (groups_for count) at count bytes
  Ok (flat_map (λ g. g) groups.0, groups.1)

-- how many numbers stand at the front that are each above the one before
unfoldable pub rise_from : ℕ → List ℕ → ℕ
rise_from before [] = 0
rise_from before (d ∷ ds) = if nat_lt before d then rise_from d ds + 1 else 0

unfoldable pub rise_len : List ℕ → ℕ
rise_len [] = 0
rise_len (d ∷ ds) = rise_from d ds + 1

-- each number is below a bound
unfoldable pub are_below : ℕ → List ℕ → Bool
are_below bound [] = true
are_below bound (p ∷ ps) = nat_lt p bound && are_below bound ps

-- each of the first numbers is among others
unfoldable pub are_used : ℕ → List ℕ → Bool
are_used zero ps = true
are_used (suc n) ps = is_among n ps && are_used n ps

-- each value by its index
abbrev pub looked_up : List ℕ → List ℕ → List ℕ
looked_up ds places = map (λ p. slice_index ds p) places

-- the values, once the dictionary and the indexes are read: the indexes, then the use of each
unfoldable pub used_at : ℕ → List ℕ → List ℕ → Result (List ℕ) FormFault
used_at at ds places =
    if not (are_below (length ds) places) then Err (fault (at + 8 + 8 * length ds + 8) COUNT)
    else (if not (are_used (length ds) places) then Err (fault at COUNT) else Ok (looked_up ds places))

-- the values after the dictionary
unfoldable pub indexed_at : ℕ → ℕ → List ℕ → List ℕ → Result (List ℕ × List ℕ) FormFault
indexed_at at count ds bytes = do
  places ← compact_at (at + 8 + 8 * length ds) count bytes
  values ← used_at at ds places.0
  Ok (values, places.1)

-- the values after the size of the dictionary
unfoldable pub entries_at : ℕ → ℕ → ℕ → List ℕ → Result (List ℕ × List ℕ) FormFault
entries_at at count size bytes =
    if nat_lt (length bytes) (8 * size) then Err (fault (at + 8) SHORT)
    else (if nat_lt (rise_len (words_in size bytes)) size then Err (fault (at + 8 + 8 * rise_len (words_in size bytes)) ORDER)
    else indexed_at at count (words_in size bytes) (drop (8 * size) bytes))

unfoldable pub dict_at : ℕ → ℕ → List ℕ → Result (List ℕ × List ℕ) FormFault
dict_at at count bytes = do
  size ← number_at at bytes
  if nat_lt count size.0 || ((size.0 == 0) && not (count == 0)) then Err (fault at COUNT) else entries_at at count size.0 size.1

-- each sum less the one before it
unfoldable pub steps_from : ℕ → List ℕ → List ℕ
steps_from before [] = []
steps_from before (s ∷ ss) = (s - before) ∷ steps_from s ss

unfoldable pub sums_at : ℕ → ℕ → List ℕ → Result (List ℕ × List ℕ) FormFault
sums_at at count bytes = do
  sums ← list_at at count bytes
  Ok (steps_from 0 sums.0, sums.1)

-- the list of that count under a code
abbrev pub code_at : Code → ℕ → ℕ → List ℕ → Result (List ℕ × List ℕ) FormFault
code_at codes.Compact at count bytes = compact_at at count bytes
code_at codes.Parted at count bytes = parted_at at count bytes
code_at codes.Dict at count bytes = dict_at at count bytes
code_at codes.EliasFano at count bytes = sums_at at count bytes

-- the front part and then the back part, or the whole list where there is no back code
abbrev pub split_at : Code → Option Code → ℕ → ℕ → List ℕ → Result (List ℕ × List ℕ) FormFault
split_at front None at count bytes = code_at front at count bytes
split_at front (Some back) at count bytes = do
  first ← code_at front at (front_count_of count) bytes
  second ← code_at back (at + (length bytes - length first.1)) (count - front_count_of count) first.1
  Ok (first.0 ++ second.0, second.1)
