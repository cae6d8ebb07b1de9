-- The bounds that the fields of a reader keep.
use Rattle.std.specs.Prelude.{◌≡◌, ℕ, ◌+◌, ◌*◌, ◌≤◌}
use Rattle.pth_outside.specs.declared.TheConstants.{LONGEST_KEY}

-- the buffer has its size, the bytes ahead lie in it, and no line took more than that many bytes of the file
pub record AreFields (len start end at given : ℕ) : Type 0 where
  pub size : len ≡ LONGEST_KEY + 1
  pub rises : start ≤ end
  pub within : end ≤ len
  pub place : at ≤ (LONGEST_KEY + 1) * given
