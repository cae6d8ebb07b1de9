-- What a sink holds after a write, and what each write leaves.
use Rattle.std.specs.Prelude.{◌≡◌, ℕ, ◌≤◌, ◌⊎◌, List, ◌++◌, take, Option, option_map}
use Rattle.pth_outside.specs.Files.{Rose}

-- what is known of a sink: the bytes written so far, where it tells them; how many writes have failed, up to the last
-- value of the count
pub record SinkState : Type 0 where
  pub told : Option (List ℕ)
  pub faults : ℕ

-- what every call on a sink leaves: the count of failures doesn't fall, and a call that failed has raised it
pub record LeavesSink (old new : SinkState) (failed : Type 0) : Type 0 where
  pub later : old.faults ≤ new.faults
  pub fault : failed → Rose old.faults new.faults

-- what a sink tells once this piece stands at the end
abbrev pub written : List ℕ → Option (List ℕ) → Option (List ℕ)
written piece told = option_map (λ bytes. bytes ++ piece) told

-- some front of the piece stands at the end
abbrev pub WritesFront : List ℕ → SinkState → SinkState → Type 0
WritesFront piece old new = (n : ℕ) × (new.told ≡ written (take n piece) old.told)

-- the whole text stands at the end, or the sink's count rose and a front of it does
abbrev pub Prints : List ℕ → SinkState → SinkState → Type 0
Prints text old new = (new.told ≡ written text old.told) ⊎ (Rose old.faults new.faults × WritesFront text old new)
