-- The buckets in the order of the search are those of the records.
use Rattle.std.specs.Prelude.{◌≡◌, ℕ, ◌<◌, ◌≤◌, Bool, true, ◌==◌, List, [], length, filter, slice_index_or}
use Rattle.std.proofs.Common.{refl, ◌∙◌, arith}
use Rattle.std.proofs.lemmas.Bool.{eq-eqb}
use Rattle.std.proofs.lemmas.List.{length-map, get_or-map}
use Rattle.std.proofs.lemmas.List.Folds.{list_any_at}
use Rattle.std.proofs.lemmas.List.Sums.{list_all-from_AllPass}
use Rattle.pthash.specs.declared.Map.{Map}
use Rattle.pthash.specs.declared.Record.{Record}
use Rattle.pthash.specs.Sizes.{bucket_of}
use Rattle.pthash.specs.SizeLaws.{bucket_of-lt}
use Rattle.pthash.specs.Order.{Bucket, bucket_at, members_of, order_of}
use Rattle.pthash.specs.OrderLaws.{numbers_distinct, members_at, rank_of}
use Rattle.pthash.specs.Search.{is_among}
use Rattle.pthash.specs.ApartCounts.{filter_has_some}
use Rattle.pthash.specs.SearchPositions.{numbers_of, AreBucketsOf}

-- a bucket at a rank is one of the buckets
among_numbers : (buckets : List Bucket) (rank k : ℕ) → rank < length buckets → (bucket_at buckets rank).number ≡ k →
    is_among (numbers_of buckets) k ≡ true
among_numbers buckets rank k within is =
    let here : slice_index_or (numbers_of buckets) rank 0 ≡ (bucket_at buckets rank).number =
    get_or-map (λ (b : Bucket). b.number) buckets rank (record { number = 0; members = [] }) 0 within in
    list_any_at (λ y. y == k) (numbers_of buckets) rank 0 (omega (arith, length-map buckets (λ (b : Bucket). b.number)))
    (eq-eqb (slice_index_or (numbers_of buckets) rank 0) k (here ∙ is))

-- a class that has an element has a member
filled : (records : List Record) (spread : Map) (m i : ℕ) (d : Record) → i < length records →
    0 < length (members_of records spread m (bucket_of spread (slice_index_or records i d).a m))
filled records spread m i d within =
    let k : ℕ = bucket_of spread (slice_index_or records i d).a m in
    let inside : Record → Bool = λ r. bucket_of spread r.a m == k in
    let some : 0 < length (filter inside records) = filter_has_some inside records i d within (eq-eqb k k refl) in
    omega (arith, length-map (filter inside records) (λ (r : Record). r.b))

-- the buckets of an order are those of its records
pub AreBucketsOf-order_of : (records : List Record) (spread : Map) (m : ℕ) → 1 ≤ m →
    AreBucketsOf (λ r. bucket_of spread r.a m) records (order_of records spread m)
AreBucketsOf-order_of records spread m some = record {
  theirs = record {
    distinct = numbers_distinct records spread m;
    members = λ rank within. members_at records spread m rank within;
  };
  covered = list_all-from_AllPass (λ r. is_among (numbers_of (order_of records spread m)) (bucket_of spread r.a m)) records
      (λ i d within.
      let k : ℕ = bucket_of spread (slice_index_or records i d).a m in
      let found = rank_of records spread m k (bucket_of-lt spread (slice_index_or records i d).a m some) (filled records spread m i d within) in
      among_numbers (order_of records spread m) found.0 k found.1 found.2);
}
