-- What the fields of the parts keep.
use Rattle.std.specs.Prelude.{ℕ, ◌≡◌, ◌+◌, ◌*◌, ◌^◌, ◌<◌, ◌≤◌, true, List, [], ◌∷◌, ◌++◌, length, take, drop}
use Rattle.std.specs.Prelude.{slice_index, Result, Ok}
use Rattle.std.specs.List.{flat_map, All}
use Rattle.bit_vector.specs.Bits.{bits_of, words_number, words_for, IsPacked}
use Rattle.elias_fano.specs.declared.fault.FormFault.{FormFault}
use Rattle.elias_fano.specs.Reading.{◌>>=◌}
use Rattle.pilot_codecs.specs.declared.groups.Head.{Head}
use Rattle.pilot_codecs.specs.Spelling.{digits_of, greatest, groups_of, groups_for}
use Rattle.pilot_codecs.specs.Reading.{fields, rise_len, are_below, are_used, compact_at}

-- so many numbers of so many bits each that are packed into words
abbrev pub values_in : ℕ → ℕ → List ℕ → List ℕ
values_in count width words = fields count width (bits_of (count * width) (words_number words))

-- just the words that so many values take in the width of the greatest
pub record IsCompact (count width : ℕ) (words : List ℕ) : Type 0 where
  pub few : count ≤ 2 ^ 30
  pub wide : width ≡ digits_of (greatest (values_in count width words))
  pub packed_are : IsPacked words (count * width)

-- the words of a group
abbrev pub words_under : List ℕ → Head → List ℕ
words_under words head = take (words_for (head.count * head.width)) (drop head.start words)

-- the values of a group
abbrev pub group_in : List ℕ → Head → List ℕ
group_in words head = values_in head.count head.width (words_under words head)

-- the words of a group are among these
pub record IsGroup (words : List ℕ) (head : Head) : Type 0 where
  pub within : head.start + words_for (head.count * head.width) ≤ length words
  pub compact : IsCompact head.count head.width (words_under words head)

-- the words of each group are among these
abbrev pub AreGroups : List ℕ → List Head → Type 0
AreGroups words heads = All (IsGroup words) heads

-- the groups with one more that bytes begin with, and the bytes after it
abbrev pub group_more_at : List (List ℕ) → ℕ → ℕ → List ℕ → Result (List (List ℕ) × List ℕ) FormFault
group_more_at groups at count bytes = compact_at at count bytes >>= λ x. Ok (groups ++ x.0 ∷ [], x.1)

-- the groups are those that the list is cut into
pub record IsParted (count : ℕ) (groups : List (List ℕ)) : Type 0 where
  pub few : count ≤ 2 ^ 30
  pub count_is : length (flat_map (λ g. g) groups) ≡ count
  pub cut : groups_of (groups_for count) (flat_map (λ g. g) groups) ≡ groups

-- a dictionary that rises, and indexes of which each is in it and which name all of it
pub record IsDict (ds places : List ℕ) : Type 0 where
  pub rising : rise_len ds ≡ length ds
  pub below : are_below (length ds) places ≡ true
  pub used : are_used (length ds) places ≡ true

-- a table has the index of each entry at the entry, as far as it goes
pub record IsTable (ds table : List ℕ) : Type 0 where
  pub at : (i : ℕ) → i < length ds → slice_index ds i < length table → slice_index table (slice_index ds i) ≡ i
