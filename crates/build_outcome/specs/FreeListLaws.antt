-- What is known of a free list: its entries are free positions below n that rise, and each taken position behind n has one of its own.
use Rattle.std.specs.Prelude.{◌≡◌, ℕ, zero, suc, ◌+◌, ◌-◌, ◌<◌, ◌≤◌, Bool, true, false, not, cond, min, ◌⊎◌}
use Rattle.std.specs.Prelude.{List, [], ◌∷◌, ◌++◌, length, filter, count_by, slice_index, All}
use Rattle.std.specs.List.Sorted.{IsNonDecreasing}
use Rattle.std.proofs.Common.{refl, sym, ap, ◌∙◌, subst, arith, ⊎_elim}
use Rattle.std.proofs.lemmas.Bool.{not-true, cases_lt, cases_order, lt-ltb, le-ltb, both_ways}
use Rattle.std.proofs.lemmas.List.{length-append, length-map, get_or-map, get_or_append_left, get_or-append_right, get_or_past, append-nil}
use Rattle.std.proofs.lemmas.List.Elements.{All-from_get_or, All-append, All-nil, All-weaker, filter-append, filter_passes}
use Rattle.std.proofs.lemmas.List.Filters.{length-filter_both}
use Rattle.std.proofs.lemmas.List.Sums.{length-filter}
use Rattle.std.proofs.lemmas.List.Sorted.{IsNonDecreasingBy-from_default}
use Rattle.pthash.specs.Order.{numbers_below}
use Rattle.pthash.specs.OrderLaws.{length-numbers_below, get_or-numbers_below}
use Rattle.pthash.specs.ApartCounts.{one_if, count_by-push}
use Rattle.build_outcome.specs.FreeList.{free_below, taken_from, free_entry, free_list_of}
use Rattle.build_outcome.specs.Values.{position_value}

-- the free positions below one number more
pub free_below-suc : (is_taken : ℕ → Bool) (n : ℕ) → free_below is_taken (suc n) ≡ free_below is_taken n ++ cond (not (is_taken n)) (n ∷ []) []
unfolding numbers_below
free_below-suc is_taken n = filter-append (λ p. not (is_taken p)) (numbers_below n) (n ∷ [])

-- each free position is below n
pub free_are_below : (is_taken : ℕ → Bool) (n : ℕ) → All (λ p. p < n) (free_below is_taken n)
unfolding numbers_below
free_are_below is_taken zero = All-nil (λ p. p < 0)
free_are_below is_taken (suc n) =
    let lower : All (λ p. p < suc n) (free_below is_taken n) =
    All-weaker (λ p. p < n) (λ p. p < suc n) (λ p below. omega arith) (free_below is_taken n) (free_are_below is_taken n) in
    subst (All (λ p. p < suc n)) (sym (free_below-suc is_taken n))
    (All-append (λ p. p < suc n) (free_below is_taken n) (cond (not (is_taken n)) (n ∷ []) []) lower (last (not (is_taken n))))
  where
    last : (b : Bool) → All (λ p. p < suc n) (cond b (n ∷ []) [])
    last true = λ k d within. let first : k ≡ 0 = omega arith in rw first (omega arith)
    last false = λ k d within. absurd (omega arith)

-- none of them is taken
pub free_are_free : (is_taken : ℕ → Bool) (n k : ℕ) → k < length (free_below is_taken n) → is_taken (slice_index (free_below is_taken n) k) ≡ false
free_are_free is_taken n k within =
    not-true (is_taken (slice_index (free_below is_taken n) k)) (filter_passes (λ p. not (is_taken p)) (numbers_below n) k 0 within)

-- they rise where those below and one more do
rise_more : (free : List ℕ) (n : ℕ) (b : Bool) → All (λ p. p < n) free →
    ((i j : ℕ) → i < j → j < length free → slice_index free i < slice_index free j) →
    (i j : ℕ) → i < j → j < length (free ++ cond b (n ∷ []) []) →
    slice_index (free ++ cond b (n ∷ []) []) i < slice_index (free ++ cond b (n ∷ []) []) j
rise_more free n false below rise i j before within =
    subst (λ ps. (j < length ps) → slice_index ps i < slice_index ps j) (sym (append-nil free)) (λ inside. rise i j before inside) within
rise_more free n true below rise i j before within =
    let count : length (free ++ n ∷ []) ≡ length free + 1 = length-append free (n ∷ []) in
    let lower : slice_index (free ++ n ∷ []) i ≡ slice_index free i = get_or_append_left free (n ∷ []) 0 i (omega arith) in
    ⊎_elim
    (λ (inside : j < length free).
    let later : slice_index (free ++ n ∷ []) j ≡ slice_index free j = get_or_append_left free (n ∷ []) 0 j inside in
    rw (lower, later) (rise i j before inside))
    (λ (end : length free ≤ j).
    let here : j - length free ≡ 0 = omega arith in
    let last : slice_index (free ++ n ∷ []) j ≡ n = get_or-append_right free (n ∷ []) (length free) j 0 refl end ∙ rw here refl in
    rw (lower, last) (below i 0 (omega arith)))
    (cases_lt j (length free))

-- the free positions rise
pub free_rise : (is_taken : ℕ → Bool) (n i j : ℕ) → i < j → j < length (free_below is_taken n) →
    slice_index (free_below is_taken n) i < slice_index (free_below is_taken n) j
unfolding numbers_below
free_rise is_taken zero i j before within = absurd (omega arith)
free_rise is_taken (suc n) i j before within =
    subst (λ ps. (j < length ps) → slice_index ps i < slice_index ps j) (sym (free_below-suc is_taken n))
    (λ inside. rise_more (free_below is_taken n) n (not (is_taken n)) (free_are_below is_taken n) (free_rise is_taken n) i j before inside) within

-- taken and free positions below n are n together
pub taken_and_free : (is_taken : ℕ → Bool) (n : ℕ) → count_by is_taken (numbers_below n) + length (free_below is_taken n) ≡ n
taken_and_free is_taken n =
    let both : length (filter is_taken (numbers_below n)) + length (free_below is_taken n) ≡ length (numbers_below n) =
    length-filter_both is_taken (λ p. not (is_taken p)) (λ p. refl) (numbers_below n) in
    omega (arith, length-filter is_taken (numbers_below n), length-numbers_below n)

-- one position more
pub taken_from-suc : (is_taken : ℕ → Bool) (n k : ℕ) → taken_from is_taken n (suc k) ≡ taken_from is_taken n k + one_if (is_taken (n + k))
unfolding numbers_below
taken_from-suc is_taken n k = count_by-push (λ i. is_taken (n + i)) (numbers_below k) k

-- the taken positions below n and the taken ones from n on
pub taken_below_and_from : (is_taken : ℕ → Bool) (n k size : ℕ) → size ≡ n + k →
    count_by is_taken (numbers_below size) ≡ count_by is_taken (numbers_below n) + taken_from is_taken n k
unfolding numbers_below
taken_below_and_from is_taken n zero size is =
    let same : size ≡ n = omega arith in
    ap (λ m. count_by is_taken (numbers_below m)) same ∙ omega arith
taken_below_and_from is_taken n (suc k) size is =
    let same : size ≡ suc (n + k) = omega arith in
    let before : count_by is_taken (numbers_below (n + k)) ≡ count_by is_taken (numbers_below n) + taken_from is_taken n k =
    taken_below_and_from is_taken n k (n + k) refl in
    let more : count_by is_taken (numbers_below (suc (n + k))) ≡ count_by is_taken (numbers_below (n + k)) + one_if (is_taken (n + k)) =
    count_by-push is_taken (numbers_below (n + k)) (n + k) in
    ap (λ m. count_by is_taken (numbers_below m)) same ∙ omega (arith, taken_from-suc is_taken n k)

-- the count of taken positions doesn't fall
pub taken_from-more : (is_taken : ℕ → Bool) (n j k : ℕ) → j ≤ k → taken_from is_taken n j ≤ taken_from is_taken n k
taken_from-more is_taken n j zero before =
    let same : j ≡ 0 = omega arith in
    ap_le same
  where
    ap_le : j ≡ 0 → taken_from is_taken n j ≤ taken_from is_taken n 0
    ap_le same = subst (λ i. taken_from is_taken n i ≤ taken_from is_taken n 0) (sym same) (omega arith)
taken_from-more is_taken n j (suc k) before =
    ⊎_elim
    (λ (lower : j < suc k).
    let earlier : taken_from is_taken n j ≤ taken_from is_taken n k = taken_from-more is_taken n j k (omega arith) in
    omega (arith, taken_from-suc is_taken n k))
    (λ (last : suc k ≤ j).
    let same : suc k ≡ j = omega arith in
    subst (λ i. taken_from is_taken n i ≤ taken_from is_taken n (suc k)) same (omega arith))
    (cases_lt j (suc k))

-- behind a taken position there is one taken more
pub taken_from-taken : (is_taken : ℕ → Bool) (n j k : ℕ) → j < k → is_taken (n + j) ≡ true → taken_from is_taken n j < taken_from is_taken n k
taken_from-taken is_taken n j k before taken =
    let one : taken_from is_taken n (suc j) ≡ taken_from is_taken n j + 1 = taken_from-suc is_taken n j ∙ rw taken refl in
    omega (arith, taken_from-more is_taken n (suc j) k before)

-- there is an entry for each position from n on
pub length-free_list_of : (is_taken : ℕ → Bool) (n size : ℕ) → length (free_list_of is_taken n size) ≡ size - n
unfolding free_list_of
length-free_list_of is_taken n size = length-map (numbers_below (size - n)) (free_entry is_taken n) ∙ length-numbers_below (size - n)

-- the entry at a place
pub get_or-free_list_of : (is_taken : ℕ → Bool) (n size k : ℕ) → k < size - n →
    slice_index (free_list_of is_taken n size) k ≡ free_entry is_taken n k
unfolding free_list_of
get_or-free_list_of is_taken n size k within =
    get_or-map (free_entry is_taken n) (numbers_below (size - n)) k 0 0 (omega (arith, length-numbers_below (size - n)))
    ∙ ap (free_entry is_taken n) (get_or-numbers_below (size - n) k within)

-- no entry is above an earlier one
entry_rises : (is_taken : ℕ → Bool) (n j k : ℕ) → j ≤ k → free_entry is_taken n j ≤ free_entry is_taken n k
entry_rises is_taken n j k before =
    let free : List ℕ = free_below is_taken n in
    let more : taken_from is_taken n j ≤ taken_from is_taken n k = taken_from-more is_taken n j k before in
    let first : ℕ = min (taken_from is_taken n j) (length free - 1) in
    let second : ℕ = min (taken_from is_taken n k) (length free - 1) in
    ⊎_elim
    (λ (same : first ≡ second). subst (λ i. slice_index free first ≤ slice_index free i) same (omega arith))
    (λ (other : (first < second) ⊎ (second < first)).
    ⊎_elim
    (λ (lower : first < second).
    let rise : slice_index free first < slice_index free second = free_rise is_taken n first second lower (omega arith) in
    omega arith)
    (λ (higher : second < first). absurd (omega arith))
    other)
    (cases_order first second)

-- the entries never fall
pub free_list_of-rises : (is_taken : ℕ → Bool) (n size : ℕ) → IsNonDecreasing (free_list_of is_taken n size)
free_list_of-rises is_taken n size =
    let count : length (free_list_of is_taken n size) ≡ size - n = length-free_list_of is_taken n size in
    IsNonDecreasingBy-from_default (λ x. x) (free_list_of is_taken n size) 0
    (λ i j before within.
    rw (get_or-free_list_of is_taken n size i (omega arith), get_or-free_list_of is_taken n size j (omega arith)) (entry_rises is_taken n i j before))

-- an entry is below n
entry_is_below : (is_taken : ℕ → Bool) (n k : ℕ) → 0 < n → free_entry is_taken n k < n
entry_is_below is_taken n k some =
    let free : List ℕ = free_below is_taken n in
    let place : ℕ = min (taken_from is_taken n k) (length free - 1) in
    ⊎_elim
    (λ (within : place < length free). free_are_below is_taken n place 0 within)
    (λ (past : length free ≤ place). let none : slice_index free place ≡ 0 = get_or_past free place 0 past in omega arith)
    (cases_lt place (length free))

-- each entry is below n, where there is a key
pub free_list_of-below : (is_taken : ℕ → Bool) (n size : ℕ) → 0 < n → All (λ value. value < n) (free_list_of is_taken n size)
free_list_of-below is_taken n size some =
    let free : List ℕ = free_list_of is_taken n size in
    let count : length free ≡ size - n = length-free_list_of is_taken n size in
    All-from_get_or (λ value. value < n) free 0
    (λ k within. rw (get_or-free_list_of is_taken n size k (omega arith)) (entry_is_below is_taken n k some))

-- the value of a position below n is the position, of another its entry
value-below : (n : ℕ) (free : List ℕ) (p : ℕ) → p < n → position_value n free p ≡ p
value-below n free p below = rw (lt-ltb p n below) refl

-- of a position behind n
value-behind : (n : ℕ) (free : List ℕ) (p : ℕ) → n ≤ p → position_value n free p ≡ slice_index free (p - n)
value-behind n free p behind = rw (le-ltb p n behind) refl

-- each position has a value below n, where there is a key
pub position_value-below : (is_taken : ℕ → Bool) (n size p : ℕ) → 0 < n → p < size → position_value n (free_list_of is_taken n size) p < n
position_value-below is_taken n size p some within =
    let free : List ℕ = free_list_of is_taken n size in
    ⊎_elim
    (λ (below : p < n). rw (value-below n free p below) below)
    (λ (behind : n ≤ p).
    rw (value-behind n free p behind, get_or-free_list_of is_taken n size (p - n) (omega arith)) (entry_is_below is_taken n (p - n) some))
    (cases_lt p n)

-- n positions of the table are taken
pub record TakesCount (is_taken : ℕ → Bool) (n size : ℕ) : Type 0 where
  pub fits : n ≤ size
  pub count : count_by is_taken (numbers_below size) ≡ n

-- a taken position behind n has fewer taken ones between than there are free ones below n
rank_is_below : (is_taken : ℕ → Bool) (n size k : ℕ) → TakesCount is_taken n size → k < size - n → is_taken (n + k) ≡ true →
    taken_from is_taken n k < length (free_below is_taken n)
rank_is_below is_taken n size k takes within taken =
    let fits : n ≤ size = takes.fits in
    let whole : count_by is_taken (numbers_below size) ≡ count_by is_taken (numbers_below n) + taken_from is_taken n (size - n) =
    taken_below_and_from is_taken n (size - n) size (omega arith) in
    let more : taken_from is_taken n k < taken_from is_taken n (size - n) = taken_from-taken is_taken n k (size - n) within taken in
    omega (arith, takes.count, taken_and_free is_taken n)

-- its entry is the free position of its rank
entry_of_taken : (is_taken : ℕ → Bool) (n size k : ℕ) → TakesCount is_taken n size → k < size - n → is_taken (n + k) ≡ true →
    free_entry is_taken n k ≡ slice_index (free_below is_taken n) (taken_from is_taken n k)
entry_of_taken is_taken n size k takes within taken =
    let below : taken_from is_taken n k < length (free_below is_taken n) = rank_is_below is_taken n size k takes within taken in
    let place : min (taken_from is_taken n k) (length (free_below is_taken n) - 1) ≡ taken_from is_taken n k = omega arith in
    ap (slice_index (free_below is_taken n)) place

-- the entries of two taken positions differ
entries_differ : (is_taken : ℕ → Bool) (n size j k : ℕ) → TakesCount is_taken n size → j < k → k < size - n → is_taken (n + j) ≡ true →
    is_taken (n + k) ≡ true → free_entry is_taken n j < free_entry is_taken n k
entries_differ is_taken n size j k takes before within first second =
    rw (entry_of_taken is_taken n size j takes (omega arith) first, entry_of_taken is_taken n size k takes within second)
    (free_rise is_taken n (taken_from is_taken n j) (taken_from is_taken n k) (taken_from-taken is_taken n j k before first)
    (rank_is_below is_taken n size k takes within second))

-- an entry of a taken position is free
entry_is_free : (is_taken : ℕ → Bool) (n size k : ℕ) → TakesCount is_taken n size → k < size - n → is_taken (n + k) ≡ true →
    is_taken (free_entry is_taken n k) ≡ false
entry_is_free is_taken n size k takes within taken =
    ap is_taken (entry_of_taken is_taken n size k takes within taken)
    ∙ free_are_free is_taken n (taken_from is_taken n k) (rank_is_below is_taken n size k takes within taken)

-- two taken positions, the first before the second, have different values
values_of_two : (is_taken : ℕ → Bool) (n size p q : ℕ) → TakesCount is_taken n size → p < q → q < size → is_taken p ≡ true →
    is_taken q ≡ true → position_value n (free_list_of is_taken n size) p ≡ position_value n (free_list_of is_taken n size) q → ⊥
values_of_two is_taken n size p q takes before within first second same =
    let free : List ℕ = free_list_of is_taken n size in
    ⊎_elim
    (λ (below : q < n).
    let mine : position_value n free p ≡ p = value-below n free p (omega arith) in
    let other : position_value n free q ≡ q = value-below n free q below in
    omega arith)
    (λ (behind : n ≤ q).
    let place : n + (q - n) ≡ q = omega arith in
    let taken : is_taken (n + (q - n)) ≡ true = ap is_taken place ∙ second in
    let other : position_value n free q ≡ free_entry is_taken n (q - n) =
    value-behind n free q behind ∙ get_or-free_list_of is_taken n size (q - n) (omega arith) in
    ⊎_elim
    (λ (lower : p < n).
    let mine : position_value n free p ≡ p = value-below n free p lower in
    let equal : p ≡ free_entry is_taken n (q - n) = sym mine ∙ same ∙ other in
    both_ways (is_taken p) (ap is_taken equal ∙ entry_is_free is_taken n size (q - n) takes (omega arith) taken) first)
    (λ (behind_too : n ≤ p).
    let place_too : n + (p - n) ≡ p = omega arith in
    let mine : position_value n free p ≡ free_entry is_taken n (p - n) =
    value-behind n free p behind_too ∙ get_or-free_list_of is_taken n size (p - n) (omega arith) in
    let rise : free_entry is_taken n (p - n) < free_entry is_taken n (q - n) =
    entries_differ is_taken n size (p - n) (q - n) takes (omega arith) (omega arith) (ap is_taken place_too ∙ first) taken in
    omega arith)
    (cases_lt p n))
    (cases_lt q n)

-- where n positions are taken, different taken positions have different values
pub position_value-differs : (is_taken : ℕ → Bool) (n size p q : ℕ) → TakesCount is_taken n size → p < size → q < size →
    is_taken p ≡ true → is_taken q ≡ true →
    position_value n (free_list_of is_taken n size) p ≡ position_value n (free_list_of is_taken n size) q → p ≡ q
position_value-differs is_taken n size p q takes p_within q_within first second same =
    ⊎_elim
    (λ (equal : p ≡ q). equal)
    (λ (other : (p < q) ⊎ (q < p)).
    ⊎_elim
    (λ (lower : p < q). absurd (values_of_two is_taken n size p q takes lower q_within first second same))
    (λ (higher : q < p). absurd (values_of_two is_taken n size q p takes higher p_within second first (sym same)))
    other)
    (cases_order p q)
