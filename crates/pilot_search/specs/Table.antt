-- The table of positions, of which some are taken.
use Rattle.std.specs.Prelude.{ℕ, ◌≡◌, ◌*◌, ◌%◌, ◌<◌, ◌≤◌, List, length, map, bit_xor, refl}
use Rattle.std.specs.Coded.{Coded, code_by, coded×, coded_ℕ}
use Rattle.std.specs.FinSet as set
use Rattle.pthash.specs.declared.TheConstants.{MAX_POSITIONS}
use Rattle.pthash.specs.Search.{Positions, set_of}
use Rattle.word_bits.specs.Bits.{is_set}

-- the size of a table, and the positions below it that are taken
pub record Table : Type 0 where
  pub size : ℕ
  pub taken : Positions

-- a table is stored as the pair of its fields
abbrev pub table_code : Coded Table
table_code =
    code_by (ℕ × Positions) (coded× coded_ℕ (set.code coded_ℕ)) (λ t. (t.size, t.taken)) (λ p. record { size = p.0; taken = p.1 }) (λ _. refl)

-- a bit of the words stands for each position, and the bits that are set are counted
pub record IsTable (words : List ℕ) (size count : ℕ) : Type 0 where
  pub positive : 1 ≤ size
  pub bound : size ≤ MAX_POSITIONS
  pub room : size < 64 * length words
  pub counted : count ≡ set.len (set_of size (is_set words 0))

-- the positions of members under a pilot of this hash, in a table of this size
abbrev pub positions_under : ℕ → ℕ → List ℕ → List ℕ
positions_under hash size members = map (λ b. bit_xor b hash % size) members
