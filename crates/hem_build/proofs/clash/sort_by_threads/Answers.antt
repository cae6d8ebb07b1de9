use Rattle.std.proofs.Common.{rules}
use Rattle.std.proofs.lemmas.List.Sorted.{answers_always}
use Rattle.bucket_map.proofs.Later.{key_of, AllPairs-sorted}
use Rattle.hem_build.proofs.clash.sort_by_threads.Goals as goal

pub returns-clause-sorted : goal.returns-clause-sorted
returns-clause-sorted g c =
    AllPairs-sorted c.par_sort_unstable_by_key.new.s
    (c.par_sort_unstable_by_key.ensures.sorted key_of (answers_always _ _ _ (λ f a r g h. search rules)))
