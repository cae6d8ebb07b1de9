-- The statuses of commands and of runs.
use Rattle.std.specs.Prelude.{◌≡◌, ◌≢◌, ◌≤◌, ◌⊎◌, ℕ}
use Rattle.pth_top.specs.declared.TheConstants.{FILE_FAULT, CHECK_FAILED, FAILED_OUTPUT, NO_MEMORY}

-- the status is that of a command or of refused words: none of a file fault, of a failed output and of want of memory
pub record IsOfCommand (status : ℕ) : Type 0 where
  pub no_fault : status ≢ FILE_FAULT
  pub no_failed_output : status ≢ FAILED_OUTPUT
  pub no_want : status ≢ NO_MEMORY

-- the statuses of a run: up to that of a failed check, of a failed output, and of want of memory
abbrev pub IsStatus : ℕ → Type 0
IsStatus status = (status ≤ CHECK_FAILED) ⊎ ((status ≡ FAILED_OUTPUT) ⊎ (status ≡ NO_MEMORY))
