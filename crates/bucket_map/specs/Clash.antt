-- Records with the same pair of hashes.
use Rattle.std.specs.Prelude.{◌≡◌, ◌≢◌, ℕ, ◌<◌, ◌≤◌, ◌⊎◌, ◌&&◌, ◌==◌, nat_le, if◌then◌else◌, List, length}
use Rattle.std.specs.Prelude.{AllPairs, slice_index_or, Option, Some, None}
use Rattle.pthash.specs.declared.Record.{Record}

-- two records have the same pair of hashes
abbrev pub HaveSamePair : Record → Record → Type 0
HaveSamePair x y = (x.a ≡ y.a) × (x.b ≡ y.b)

-- all pairs of hashes differ
abbrev pub HasDistinctPairs : List Record → Type 0
HasDistinctPairs records = AllPairs (λ x y. ¬ HaveSamePair x y) records

-- all ordinals differ
abbrev pub HasDistinctOrdinals : List Record → Type 0
HasDistinctOrdinals records = AllPairs (λ x y. x.ordinal ≢ y.ordinal) records

-- the record at a place of the list
abbrev pub record_at : List Record → ℕ → Record
record_at records place = slice_index_or records place (record { a = 0; b = 0; ordinal = 0 })

-- the records at two places have these ordinals and the same pair of hashes
pub record Clash (records : List Record) (i j : ℕ) : Type 0 where
  pub first : ℕ
  pub second : ℕ
  pub apart : first ≢ second
  pub first_inside : first < length records
  pub second_inside : second < length records
  pub first_ordinal : (record_at records first).ordinal ≡ i
  pub second_ordinal : (record_at records second).ordinal ≡ j
  pub same_pair : HaveSamePair (record_at records first) (record_at records second)

-- j is the least ordinal for which a record with a lesser ordinal has the same pair, and i is the least such
pub record IsLeastClash (records : List Record) (i j : ℕ) : Type 0 where
  pub clash : Clash records i j
  pub earlier : i < j
  pub least_second : (x y : ℕ) → x < y → Clash records x y → j ≤ y
  pub least_first : (x : ℕ) → x < j → Clash records x j → i ≤ x

-- one record is no later than another: by the first hash, then by the second, then by the ordinal
abbrev pub IsNoLater : Record → Record → Type 0
IsNoLater x y =
    (x.a < y.a) ⊎ ((x.a ≡ y.a) × ((x.b < y.b) ⊎ ((x.b ≡ y.b) × (x.ordinal ≤ y.ordinal))))

-- of two clashes the one with the lesser second ordinal
abbrev pub lesser_clash : Option (ℕ × ℕ) → ℕ × ℕ → Option (ℕ × ℕ)
lesser_clash None clash = Some clash
lesser_clash (Some least) clash = if nat_le least.1 clash.1 then Some least else Some clash

-- the least clash so far and of one more pair of neighbours
abbrev pub with_neighbours : Option (ℕ × ℕ) → Record → Record → Option (ℕ × ℕ)
with_neighbours least x y =
    if x.a == y.a && x.b == y.b then lesser_clash least (x.ordinal, y.ordinal) else least
