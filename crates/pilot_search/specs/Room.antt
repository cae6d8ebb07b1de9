-- What a search is lent.
use Rattle.std.specs.Prelude.{ℕ, ◌≤◌, [], List, length}
use Rattle.pilot_search.specs.Kept.{AreHashes}
use Rattle.pilot_search.specs.Marking.{AreMarks}

-- how many members a bucket may have, and the positions that were computed last
pub record Room : Type 0 where
  pub members : ℕ
  pub positions : List ℕ

-- the room for positions holds those computed last, no number is marked, and the hashes are those of the seed
pub record IsRoom (positions : List ℕ) (used : ℕ) (marks hashes : List ℕ) (seed : ℕ) : Type 0 where
  pub within : used ≤ length positions
  pub ready : AreMarks marks []
  pub kept : AreHashes seed hashes
