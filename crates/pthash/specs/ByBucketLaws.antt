-- How the pilots by bucket number are built up, one bucket after another from the last rank on.
use Rattle.std.specs.Prelude.{◌≡◌, ℕ, ◌<◌, true, false, cond, ◌==◌, List, [], ◌∷◌, length, replicate, slice_index, slice_set}
use Rattle.std.proofs.Common.{refl, sym, ap, ◌∙◌, arith, length-set, get_or-set_other, get_or-set_same}
use Rattle.std.proofs.lemmas.Bool.{eqb-true, eqb-false}
use Rattle.std.proofs.lemmas.Grind.{same_number_lists}
use Rattle.std.proofs.lemmas.List.{length-map, get_or-map, length-replicate, get_or-replicate}
use Rattle.pthash.specs.Order.{Bucket, numbers_below}
use Rattle.pthash.specs.OrderLaws.{length-numbers_below, get_or-numbers_below}
use Rattle.pthash.specs.ByBucket.{pilot_by_number, pilots_by_number}

-- there is one pilot for each bucket
pub length-pilots_by_number : (buckets : List Bucket) (pilots : List ℕ) (m : ℕ) → length (pilots_by_number buckets pilots m) ≡ m
unfolding pilots_by_number
length-pilots_by_number buckets pilots m = length-map (numbers_below m) (pilot_by_number buckets pilots) ∙ length-numbers_below m

-- the pilot at a number
pub get_or-pilots_by_number : (buckets : List Bucket) (pilots : List ℕ) (m k : ℕ) → k < m →
    slice_index (pilots_by_number buckets pilots m) k ≡ pilot_by_number buckets pilots k
unfolding pilots_by_number
get_or-pilots_by_number buckets pilots m k below =
    get_or-map (pilot_by_number buckets pilots) (numbers_below m) k 0 0 (omega (arith, length-numbers_below m))
    ∙ ap (pilot_by_number buckets pilots) (get_or-numbers_below m k below)

-- without buckets each pilot is 0
pub pilots_by_number-none : (pilots : List ℕ) (m : ℕ) → pilots_by_number [] pilots m ≡ replicate m 0
pilots_by_number-none pilots m =
    same_number_lists (pilots_by_number [] pilots m) (replicate m 0)
    (length-pilots_by_number [] pilots m ∙ sym (length-replicate m 0))
    (λ k within.
    let below : k < m = omega (arith, length-pilots_by_number [] pilots m) in
    get_or-pilots_by_number [] pilots m k below ∙ sym (get_or-replicate m k 0 0 below))

-- one more bucket before the others sets the pilot at its number
pub pilots_by_number-cons : (bucket : Bucket) (buckets : List Bucket) (pilot : ℕ) (pilots : List ℕ) (m : ℕ) → bucket.number < m →
    pilots_by_number (bucket ∷ buckets) (pilot ∷ pilots) m ≡ slice_set (pilots_by_number buckets pilots m) bucket.number pilot
pilots_by_number-cons bucket buckets pilot pilots m within =
    let others : List ℕ = pilots_by_number buckets pilots m in
    let set_others : List ℕ = slice_set others bucket.number pilot in
    let count : length others ≡ m = length-pilots_by_number buckets pilots m in
    let place : bucket.number < length others = omega arith in
    same_number_lists (pilots_by_number (bucket ∷ buckets) (pilot ∷ pilots) m) set_others
    (length-pilots_by_number (bucket ∷ buckets) (pilot ∷ pilots) m ∙ sym (length-set others bucket.number pilot ∙ count))
    (λ k in_range.
    let below : k < m = omega (arith, length-pilots_by_number (bucket ∷ buckets) (pilot ∷ pilots) m) in
    get_or-pilots_by_number (bucket ∷ buckets) (pilot ∷ pilots) m k below
    ∙ elim (bucket.number == k) as (λ b. (bucket.number == k) ≡ b → cond b pilot (pilot_by_number buckets pilots k) ≡ slice_index set_others k) [
      | true ↦ λ same.
          let here : bucket.number ≡ k = eqb-true bucket.number k same in
          sym (rw (← here) (get_or-set_same others bucket.number pilot 0 place))
      | false ↦ λ other.
          sym (get_or-set_other others bucket.number k pilot 0 (λ e. eqb-false bucket.number k other (sym e))
          ∙ get_or-pilots_by_number buckets pilots m k below)
    ] refl)
