-- How the pilots by number grow, from the last rank to the first.
use Rattle.std.proofs.Common.{◌≡◌, ℕ, suc, ◌-◌, ◌<◌, ◌≤◌, List, [], length, drop, replicate, sym, ap, ◌∙◌, subst, arith}
use Rattle.std.specs.Prelude.{slice_set, slice_index}
use Rattle.std.proofs.lemmas.List.{drop_all}
use Rattle.std.proofs.Math.Seq.{drop-cons}
use Rattle.pthash.specs.Order.{Bucket, bucket_at}
use Rattle.pthash.specs.ByBucket.{pilots_by_number}
use Rattle.pthash.specs.ByBucketLaws.{pilots_by_number-none, pilots_by_number-cons}

-- behind the last rank there are zeros alone
pub none_numbered : (buckets : List Bucket) (pilots items : List ℕ) (n m : ℕ) → length buckets ≤ n → items ≡ replicate m 0 →
    items ≡ pilots_by_number (drop n buckets) (drop n pilots) m
none_numbered buckets pilots items n m past zeros =
    zeros ∙ sym (ap (λ bs. pilots_by_number bs (drop n pilots) m) (drop_all n buckets past) ∙ pilots_by_number-none (drop n pilots) m)

-- the next rank sets one pilot
one_more : (buckets : List Bucket) (pilots items : List ℕ) (rank m : ℕ) → rank < length buckets → rank < length pilots →
    (bucket_at buckets rank).number < m → items ≡ pilots_by_number (drop (suc rank) buckets) (drop (suc rank) pilots) m →
    slice_set items (bucket_at buckets rank).number (slice_index pilots rank) ≡ pilots_by_number (drop rank buckets) (drop rank pilots) m
one_more buckets pilots items rank m in_buckets in_pilots below so_far =
    rw (drop-cons buckets rank (record { number = 0; members = [] }) in_buckets, drop-cons pilots rank 0 in_pilots)
    (ap (λ xs. slice_set xs (bucket_at buckets rank).number (slice_index pilots rank)) so_far
    ∙ sym (pilots_by_number-cons (bucket_at buckets rank) (drop (suc rank) buckets) (slice_index pilots rank) (drop (suc rank) pilots) m below))

-- the same, by the place behind the next rank
pub one_more_numbered : (buckets : List Bucket) (pilots items : List ℕ) (place number m : ℕ) → 0 < place → place ≤ length buckets →
    length pilots ≡ length buckets → number ≡ (bucket_at buckets (place - 1)).number → (bucket_at buckets (place - 1)).number < m →
    items ≡ pilots_by_number (drop place buckets) (drop place pilots) m →
    slice_set items number (slice_index pilots (place - 1)) ≡ pilots_by_number (drop (place - 1) buckets) (drop (place - 1) pilots) m
one_more_numbered buckets pilots items place number m some within as_many is below so_far =
    let next : place ≡ suc (place - 1) = omega arith in
    let from_next : items ≡ pilots_by_number (drop (suc (place - 1)) buckets) (drop (suc (place - 1)) pilots) m =
    subst (λ k. items ≡ pilots_by_number (drop k buckets) (drop k pilots) m) next so_far in
    rw is (one_more buckets pilots items (place - 1) m (omega arith) (omega arith) below from_next)
