-- What the first clash of a list is, for those who know it by its properties.
use Rattle.std.specs.Prelude.{◌≡◌, ℕ, ◌<◌, true, false, List, length, Option, Some, None, is_some}
use Rattle.std.proofs.Common.{refl, ap, arith}
use Rattle.pthash.specs.Search.{least_below, IsLeast}
use Rattle.pthash.specs.Least.{least_below-none, least_below-found, least_below-is_least}
use Rattle.build_outcome.specs.Clash.{is_twin, earlier_twin, with_twin, twins_at, clash_of}

-- the keys at two places are the first clash: nothing before the second place has an earlier twin, and nothing before the first is one
pub record IsFirstClash (keys : List (List ℕ)) (seed i j : ℕ) : Type 0 where
  pub earlier : i < j
  pub within : j < length keys
  pub twins : is_twin keys seed j i ≡ true
  pub least_second : (x y : ℕ) → x < y → y < j → is_twin keys seed y x ≡ false
  pub least_first : (x : ℕ) → x < i → is_twin keys seed j x ≡ false

-- the first twin of the second place
twin_of_second : (keys : List (List ℕ)) (seed i j : ℕ) → IsFirstClash keys seed i j → earlier_twin keys seed j ≡ Some i
twin_of_second keys seed i j first =
    least_below-found (is_twin keys seed j) j i (record { below = first.earlier; passes = first.twins; first = first.least_first })

-- the first clash is found
pub clash_of-found : (keys : List (List ℕ)) (seed i j : ℕ) → IsFirstClash keys seed i j → clash_of keys seed ≡ Some (i, j)
unfolding clash_of
clash_of-found keys seed i j first =
    let twin : earlier_twin keys seed j ≡ Some i = twin_of_second keys seed i j first in
    let second : least_below (λ y. is_some (earlier_twin keys seed y)) (length keys) ≡ Some j =
    least_below-found (λ y. is_some (earlier_twin keys seed y)) (length keys) j (record {
      below = first.within;
      passes = ap is_some twin;
      first = λ y before. ap is_some (least_below-none (is_twin keys seed y) y (λ x lower. first.least_second x y lower before));
    }) in
    rw second (rw twin refl)

-- where no key has an earlier twin, there is no clash
pub clash_of-none : (keys : List (List ℕ)) (seed : ℕ) → ((x y : ℕ) → x < y → y < length keys → is_twin keys seed y x ≡ false) →
    clash_of keys seed ≡ None
unfolding clash_of
clash_of-none keys seed apart =
    let none : least_below (λ y. is_some (earlier_twin keys seed y)) (length keys) ≡ None =
    least_below-none (λ y. is_some (earlier_twin keys seed y)) (length keys)
    (λ y within. ap is_some (least_below-none (is_twin keys seed y) y (λ x lower. apart x y lower within))) in
    rw none refl

-- two places of the list, the first before the second
pub record IsEarlierIn (keys : List (List ℕ)) (i j : ℕ) : Type 0 where
  pub earlier : i < j
  pub within : j < length keys

-- the places of a key and its twin
earlier_of_twin : (keys : List (List ℕ)) (seed i j y : ℕ) (twin : Option ℕ) → earlier_twin keys seed y ≡ twin → y < length keys →
    with_twin y twin ≡ Some (i, j) → IsEarlierIn keys i j
earlier_of_twin keys seed i j y None twin within found = absurd cc
earlier_of_twin keys seed i j y (Some x) twin within found =
    let first : x ≡ i = ap (λ o. first_of_pair o) found in
    let second : y ≡ j = ap (λ o. second_of_pair o) found in
    let least : IsLeast (is_twin keys seed y) y x = least_below-is_least (is_twin keys seed y) y x twin in
    record { earlier = omega (arith, least.below); within = omega arith }
  where
    first_of_pair : Option (ℕ × ℕ) → ℕ
    first_of_pair None = 0
    first_of_pair (Some p) = p.0

    second_of_pair : Option (ℕ × ℕ) → ℕ
    second_of_pair None = 0
    second_of_pair (Some p) = p.1

-- the same for a place that may not be there
earlier_of_second : (keys : List (List ℕ)) (seed i j : ℕ) (second : Option ℕ) →
    least_below (λ y. is_some (earlier_twin keys seed y)) (length keys) ≡ second →
    twins_at keys seed second ≡ Some (i, j) → IsEarlierIn keys i j
earlier_of_second keys seed i j None second found = absurd cc
earlier_of_second keys seed i j (Some y) second found =
    earlier_of_twin keys seed i j y (earlier_twin keys seed y) refl
    (least_below-is_least (λ y. is_some (earlier_twin keys seed y)) (length keys) y second).below found

-- the two keys of a clash are two keys of the list, in their order
pub clash_of-earlier : (keys : List (List ℕ)) (seed i j : ℕ) → clash_of keys seed ≡ Some (i, j) → IsEarlierIn keys i j
unfolding clash_of
clash_of-earlier keys seed i j found =
    earlier_of_second keys seed i j (least_below (λ y. is_some (earlier_twin keys seed y)) (length keys)) refl found
