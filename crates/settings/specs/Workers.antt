-- How many workers search a partition.
use Rattle.std.specs.Prelude.{ℕ}
use Rattle.settings.specs.declared.how.How.{How}
use Rattle.settings.specs.declared.how.How.TheVariants.{Alone, Rounds, Turns}

-- the number of workers
abbrev pub workers_of : How → ℕ
workers_of Alone = 1
workers_of (Rounds workers) = workers
workers_of (Turns workers) = workers
