use Rattle.std.proofs.Common.{◌≡◌, ◌≤◌, ◌<◌, ◌^◌, true}
use Rattle.elias_fano.specs.Spelling.{rises, last_of}
use Rattle.bench_lists.proofs.input.rising.Given as goal

abbrev pub invariant-loop : goal.invariant-loop
invariant-loop l = (rises 0 l.values.items ≡ true) × (last_of 0 l.values.items ≤ l.total) × (l.total < 2 ^ 64)
