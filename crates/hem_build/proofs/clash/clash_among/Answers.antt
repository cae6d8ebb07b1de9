use Rattle.bucket_map.proofs.CallerLemmas.{IsClashAnswer-IsPermutation}
use Rattle.hem_build.proofs.clash.clash_among.Goals as goal

pub returns-then-workers-gt1 : goal.returns-then-workers-gt1
returns-then-workers-gt1 g c =
    IsClashAnswer-IsPermutation c.args.records.now c.sort_by_threads.new.records c.least_repeat.result c.sort_by_threads.ensures.permutation
    (record { none = c.least_repeat.ensures.none; least = c.least_repeat.ensures.least })
