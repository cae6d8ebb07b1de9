use Rattle.std.proofs.Common.{rules}
use Rattle.std.proofs.lemmas.List.Sorted.{answers_always}
use Rattle.bucket_map.proofs.Later.{key_of, AllPairs-sorted}
use Rattle.bucket_map.proofs.clash.sort_records.Goals as goal

pub returns-clause-sorted : goal.returns-clause-sorted
returns-clause-sorted c =
    AllPairs-sorted c.sort_unstable_by_key.new.self
    (c.sort_unstable_by_key.ensures.sorted key_of (answers_always _ _ _ (λ f a r g h. search rules)))
