-- The positions that a finished search gives the records of its buckets: each record has one of its own.
use Rattle.std.specs.Prelude.{◌≡◌, ℕ, zero, suc, ◌+◌, ◌<◌, ◌≤◌, ◌%◌, Bool}
use Rattle.std.specs.Prelude.{true, false, not, ◌&&◌, ◌||◌, ◌==◌, cond, nat_lt, bit_xor}
use Rattle.std.specs.Prelude.{List, [], ◌∷◌, ◌++◌, length, map, filter, take, count_by, slice_index}
use Rattle.std.specs.FinSet.{contains}
use Rattle.std.specs.List.{list_all}
use Rattle.std.proofs.Common.{refl, sym, ap, ◌∙◌, subst, arith, add-one, ⊎_elim}
use Rattle.std.proofs.lemmas.Bool.{and_parts, and_from, not-true, cases_eq, eq-eqb, ne_eqb, lt-ltb}
use Rattle.std.proofs.lemmas.List.{get_or_default, append_assoc, append-nil, take_more, take_all, length-take-le}
use Rattle.std.proofs.lemmas.List.Sums.{list_all-from_AllPass}
use Rattle.pthash.specs.declared.Record.{Record}
use Rattle.pthash.specs.DistinctLaws.{is_among-at}
use Rattle.pthash.specs.Hash.{pilot_hash}
use Rattle.pthash.specs.Order.{Bucket, bucket_at, numbers_below}
use Rattle.pthash.specs.Search.{SearchPlan, SearchState, position_of, positions_of, is_among, is_distinct}
use Rattle.pthash.specs.SearchLaws.{first_positions, IsReached}
use Rattle.pthash.specs.ByBucket.{pilot_by_number}
use Rattle.pthash.specs.ApartCounts.{one_if, count_of, count_by-append, count_by-either, count_by-map, count_by-filter, count_by-all, count_by-among}
use Rattle.pthash.specs.ApartCounts.{count_by-cons, is_distinct-counted, count_of-distinct}

-- the numbers of buckets
abbrev pub numbers_of : List Bucket → List ℕ
numbers_of buckets = map (λ bucket. bucket.number) buckets

-- the second hashes of the records of a class
abbrev pub members_in : (Record → ℕ) → List Record → ℕ → List ℕ
members_in class records k = map (λ r. r.b) (filter (λ r. class r == k) records)

-- the buckets' numbers are distinct, and each has the records of its class as members
pub record HaveMembersOf (class : Record → ℕ) (records : List Record) (buckets : List Bucket) : Type 0 where
  pub distinct : is_distinct (numbers_of buckets) ≡ true
  pub members : (rank : ℕ) → rank < length buckets → (bucket_at buckets rank).members ≡ members_in class records (bucket_at buckets rank).number

-- so they have, and each record's class is the number of one
pub record AreBucketsOf (class : Record → ℕ) (records : List Record) (buckets : List Bucket) : Type 0 where
  pub theirs : HaveMembersOf class records buckets
  pub covered : list_all (λ r. is_among (numbers_of buckets) (class r)) records ≡ true

-- the positions of buckets under their pilots
abbrev pub placed : ℕ → ℕ → List Bucket → List ℕ → List ℕ
placed seed size [] pilots = []
placed seed size (bucket ∷ buckets) [] = []
placed seed size (bucket ∷ buckets) (pilot ∷ pilots) = positions_of seed size bucket.members pilot ++ placed seed size buckets pilots

-- the position of a record whose bucket's number is its class
abbrev pub record_position : ℕ → ℕ → List Bucket → List ℕ → (Record → ℕ) → Record → ℕ
record_position seed size buckets pilots class r = position_of seed size (pilot_by_number buckets pilots (class r)) r.b

-- one bucket more at the end
placed_push : (seed size : ℕ) (buckets : List Bucket) (pilots : List ℕ) (bucket : Bucket) (pilot : ℕ) → length buckets ≡ length pilots →
    placed seed size (buckets ++ bucket ∷ []) (pilots ++ pilot ∷ []) ≡ placed seed size buckets pilots ++ positions_of seed size bucket.members pilot
placed_push seed size [] [] bucket pilot same = append-nil (positions_of seed size bucket.members pilot)
placed_push seed size [] (k ∷ pilots) bucket pilot same = absurd (omega arith)
placed_push seed size (b ∷ buckets) [] bucket pilot same = absurd (omega arith)
placed_push seed size (b ∷ buckets) (k ∷ pilots) bucket pilot same =
    let first : List ℕ = positions_of seed size b.members k in
    let last : List ℕ = positions_of seed size bucket.members pilot in
    ap (λ ps. first ++ ps) (placed_push seed size buckets pilots bucket pilot (omega arith))
    ∙ sym (append_assoc first (placed seed size buckets pilots) last)

-- the positions by rank are those of the first buckets under the first pilots
pub first_positions-placed : (plan : SearchPlan) (pilots : List ℕ) (t : ℕ) → t ≤ length plan.buckets → t ≤ length pilots →
    first_positions plan pilots t ≡ placed plan.seed plan.size (take t plan.buckets) (take t pilots)
unfolding first_positions
first_positions-placed plan pilots zero within known = refl
first_positions-placed plan pilots (suc t) within known =
    let none : Bucket = record { number = 0; members = [] } in
    let bucket : Bucket = bucket_at plan.buckets t in
    let pilot : ℕ = slice_index pilots t in
    let buckets : take (t + 1) plan.buckets ≡ take t plan.buckets ++ bucket ∷ [] = take_more plan.buckets t none within in
    let more_pilots : take (t + 1) pilots ≡ take t pilots ++ pilot ∷ [] = take_more pilots t 0 known in
    let next : placed plan.seed plan.size (take (t + 1) plan.buckets) (take (t + 1) pilots)
    ≡ placed plan.seed plan.size (take (suc t) plan.buckets) (take (suc t) pilots) =
    ap (λ n. placed plan.seed plan.size (take n plan.buckets) (take n pilots)) (add-one t) in
    let fronts : length (take t plan.buckets) ≡ length (take t pilots) =
    length-take-le t plan.buckets (omega arith) ∙ sym (length-take-le t pilots (omega arith)) in
    ap (λ ps. ps ++ positions_of plan.seed plan.size bucket.members pilot) (first_positions-placed plan pilots t (omega arith) (omega arith))
    ∙ sym (placed_push plan.seed plan.size (take t plan.buckets) (take t pilots) bucket pilot fronts)
    ∙ ap (λ bs. placed plan.seed plan.size bs (take t pilots ++ pilot ∷ [])) (sym buckets)
    ∙ ap (λ ps. placed plan.seed plan.size (take (t + 1) plan.buckets) ps) (sym more_pilots)
    ∙ next

-- whether a record is of one of these buckets and its position passes
abbrev passes_in : (seed size : ℕ) → (ℕ → Bool) → (Record → ℕ) → List Bucket → List ℕ → Record → Bool
passes_in seed size test class buckets pilots r =
    is_among (numbers_of buckets) (class r) && test (record_position seed size buckets pilots class r)

-- of a record in the first bucket or in a later one
one_of_two : (number class : ℕ) (later first_passes later_passes : Bool) → (number ≡ class → later ≡ false) →
    one_if ((number == class || later) && cond (number == class) first_passes later_passes)
    ≡ one_if (class == number && first_passes) + one_if (later && later_passes)
one_of_two number class later first_passes later_passes apart =
    ⊎_elim
    (λ (same : number ≡ class). rw (eq-eqb number class same, eq-eqb class number (sym same), apart same) (omega arith))
    (λ (other : number ≡ class → ⊥). rw (ne_eqb number class other, ne_eqb class number (λ e. other (sym e))) (omega arith))
    (cases_eq number class)

-- a test of the position that a pilot chosen by a condition gives
test_of_choice : (seed size : ℕ) (test : ℕ → Bool) (b pilot other : ℕ) (choice : Bool) →
    test (position_of seed size (cond choice pilot other) b) ≡ cond choice (test (position_of seed size pilot b)) (test (position_of seed size other b))
test_of_choice seed size test b pilot other true = refl
test_of_choice seed size test b pilot other false = refl

-- the records of some buckets have the positions of these buckets, counted by any test
pub count_of_placed : (seed size : ℕ) (test : ℕ → Bool) (class : Record → ℕ) (records : List Record) (buckets : List Bucket) (pilots : List ℕ) →
    HaveMembersOf class records buckets → length buckets ≤ length pilots →
    count_by (passes_in seed size test class buckets pilots) records ≡ count_by test (placed seed size buckets pilots)
count_of_placed seed size test class records [] pilots theirs known = nothing records
  where
    nothing : (rs : List Record) → count_by (λ r. false) rs ≡ 0
    nothing [] = refl
    nothing (r ∷ rs) = count_by-cons (λ x. false) r rs ∙ omega (arith, nothing rs)
count_of_placed seed size test class records (bucket ∷ buckets) [] theirs known = absurd (omega arith)
count_of_placed seed size test class records (bucket ∷ buckets) (pilot ∷ pilots) theirs known =
    let numbers = and_parts (not (is_among (numbers_of buckets) bucket.number)) (is_distinct (numbers_of buckets)) theirs.distinct in
    let own : bucket.members ≡ members_in class records bucket.number = theirs.members 0 (omega arith) in
    let others : HaveMembersOf class records buckets =
    record { distinct = numbers.1; members = λ rank within. theirs.members (suc rank) (omega arith) } in
    let rest : count_by (passes_in seed size test class buckets pilots) records ≡ count_by test (placed seed size buckets pilots) =
    count_of_placed seed size test class records buckets pilots others (omega arith) in
    let mine : Record → Bool = λ r. class r == bucket.number && test (position_of seed size pilot r.b) in
    let members : count_by test (positions_of seed size bucket.members pilot) ≡ count_by mine records =
    ap (λ ms. count_by test (positions_of seed size ms pilot)) own
    ∙ count_by-map test (position_of seed size pilot) (members_in class records bucket.number)
    ∙ count_by-map (λ b. test (position_of seed size pilot b)) (λ (r : Record). r.b) (filter (λ r. class r == bucket.number) records)
    ∙ count_by-filter (λ (r : Record). test (position_of seed size pilot r.b)) (λ r. class r == bucket.number) records in
    let split : (r : Record) → one_if (passes_in seed size test class (bucket ∷ buckets) (pilot ∷ pilots) r)
    ≡ one_if (mine r) + one_if (passes_in seed size test class buckets pilots r) =
    λ r. ap (λ b. one_if ((bucket.number == class r || is_among (numbers_of buckets) (class r)) && b))
    (test_of_choice seed size test r.b pilot (pilot_by_number buckets pilots (class r)) (bucket.number == class r))
    ∙ one_of_two bucket.number (class r) (is_among (numbers_of buckets) (class r)) (test (position_of seed size pilot r.b))
    (test (record_position seed size buckets pilots class r))
    (λ same. subst (λ k. is_among (numbers_of buckets) k ≡ false) same (not-true (is_among (numbers_of buckets) bucket.number) numbers.0)) in
    count_by-either (passes_in seed size test class (bucket ∷ buckets) (pilot ∷ pilots)) mine (passes_in seed size test class buckets pilots) split records
    ∙ omega (arith, count_by-append test (positions_of seed size bucket.members pilot) (placed seed size buckets pilots))

-- where each record is inside, a count of what is inside too is the whole count
count_inside : (inside test : Record → Bool) (records : List Record) → list_all inside records ≡ true →
    count_by (λ r. inside r && test r) records ≡ count_by test records
count_inside inside test [] all = refl
count_inside inside test (r ∷ records) all =
    let parts = and_parts (inside r) (list_all inside records) all in
    count_by-cons (λ x. inside x && test x) r records
    ∙ ap (λ b. one_if (b && test r) + count_by (λ x. inside x && test x) records) parts.0
    ∙ ap (λ n. one_if (test r) + n) (count_inside inside test records parts.1)
    ∙ sym (count_by-cons test r records)

-- the position of a record after a search
abbrev pub found_position : SearchPlan → SearchState → (Record → ℕ) → Record → ℕ
found_position plan state class r = record_position plan.seed plan.size plan.buckets state.pilots class r

-- the records of all buckets have the positions that the search took, counted by any test
pub count_of_found : (plan : SearchPlan) (state : SearchState) (class : Record → ℕ) (records : List Record) (test : ℕ → Bool) →
    IsReached plan (length plan.buckets) state → AreBucketsOf class records plan.buckets →
    count_by (λ r. test (found_position plan state class r)) records ≡ count_by test (first_positions plan state.pilots (length plan.buckets))
count_of_found plan state class records test reached buckets =
    let t : ℕ = length plan.buckets in
    let known : length state.pilots ≡ t = reached.one_pilot_a_rank in
    let all_buckets : take t plan.buckets ≡ plan.buckets = take_all t plan.buckets (omega arith) in
    let all_pilots : take t state.pilots ≡ state.pilots = take_all t state.pilots (omega arith) in
    sym (count_inside (λ r. is_among (numbers_of plan.buckets) (class r)) (λ r. test (found_position plan state class r)) records buckets.covered)
    ∙ count_of_placed plan.seed plan.size test class records plan.buckets state.pilots buckets.theirs (omega arith)
    ∙ ap (λ bs. count_by test (placed plan.seed plan.size bs state.pilots)) (sym all_buckets)
    ∙ ap (λ ps. count_by test (placed plan.seed plan.size (take t plan.buckets) ps)) (sym all_pilots)
    ∙ ap (count_by test) (sym (first_positions-placed plan state.pilots t (omega arith) (omega arith)))

-- the positions of the records are pairwise different
pub found_are_distinct : (plan : SearchPlan) (state : SearchState) (class : Record → ℕ) (records : List Record) →
    IsReached plan (length plan.buckets) state → AreBucketsOf class records plan.buckets →
    is_distinct (map (found_position plan state class) records) ≡ true
found_are_distinct plan state class records reached buckets =
    is_distinct-counted (map (found_position plan state class) records)
    (λ p. let same : count_of p (map (found_position plan state class) records) ≡ count_of p (first_positions plan state.pilots (length plan.buckets)) =
    count_by-map (λ x. x == p) (found_position plan state class) records ∙ count_of_found plan state class records (λ x. x == p) reached buckets in
    omega (arith, count_of-distinct (first_positions plan state.pilots (length plan.buckets)) reached.distinct p))

-- the positions of the records are below the size of the table
pub found_are_below : (plan : SearchPlan) (state : SearchState) (class : Record → ℕ) (records : List Record) → 1 ≤ plan.size →
    list_all (λ r. nat_lt (found_position plan state class r) plan.size) records ≡ true
found_are_below plan state class [] room = refl
found_are_below plan state class (r ∷ records) room =
    let p : ℕ = bit_xor r.b (pilot_hash (pilot_by_number plan.buckets state.pilots (class r)) plan.seed) % plan.size in
    and_from (nat_lt p plan.size) (list_all (λ x. nat_lt (found_position plan state class x) plan.size) records)
    (lt-ltb p plan.size (omega arith)) (found_are_below plan state class records room)

-- where the count of what fails is none, all pass
all_from_count : {A : Type 0} (test : A → Bool) (xs : List A) → count_by (λ x. not (test x)) xs ≡ 0 → list_all test xs ≡ true
all_from_count test [] none = refl
all_from_count test (x ∷ xs) none =
    elim (test x) as (λ b. one_if (not b) + count_by (λ y. not (test y)) xs ≡ 0 → (b && list_all test xs) ≡ true) [
      | true ↦ λ rest. all_from_count test xs (omega arith)
      | false ↦ λ some. absurd (omega arith)
    ] (sym (count_by-cons (λ y. not (test y)) x xs) ∙ none)

-- each number of a list is among them
all_among : (xs : List ℕ) → list_all (is_among xs) xs ≡ true
all_among xs =
    list_all-from_AllPass (is_among xs) xs
    (λ i d within. ap (is_among xs) (get_or_default xs i d 0 within) ∙ is_among-at xs i within)

-- where all pass, the count of what fails is none
count_from_all : (test : ℕ → Bool) (xs : List ℕ) → list_all test xs ≡ true → count_by (λ x. not (test x)) xs ≡ 0
count_from_all test [] all = refl
count_from_all test (x ∷ xs) all =
    let parts = and_parts (test x) (list_all test xs) all in
    count_by-cons (λ y. not (test y)) x xs ∙ ap (λ b. one_if (not b) + count_by (λ y. not (test y)) xs) parts.0
    ∙ omega (arith, count_from_all test xs parts.1)

-- the positions of the records are taken
pub found_are_taken : (plan : SearchPlan) (state : SearchState) (class : Record → ℕ) (records : List Record) →
    IsReached plan (length plan.buckets) state → AreBucketsOf class records plan.buckets →
    list_all (λ r. contains state.taken (found_position plan state class r)) records ≡ true
found_are_taken plan state class records reached buckets =
    let all : List ℕ = first_positions plan state.pilots (length plan.buckets) in
    let same : contains state.taken ≡ is_among all = λ i p. reached.taken_are_theirs p i in
    let none : count_by (λ p. not (is_among all p)) all ≡ 0 = count_from_all (is_among all) all (all_among all) in
    let none_found : count_by (λ r. not (is_among all (found_position plan state class r))) records ≡ 0 =
    count_of_found plan state class records (λ p. not (is_among all p)) reached buckets ∙ none in
    subst (λ f. list_all (λ r. f (found_position plan state class r)) records ≡ true) (sym same)
    (all_from_count (λ r. is_among all (found_position plan state class r)) records none_found)

-- as many positions of the table are taken as there are records
pub count_of_taken : (plan : SearchPlan) (state : SearchState) (class : Record → ℕ) (records : List Record) →
    IsReached plan (length plan.buckets) state → AreBucketsOf class records plan.buckets →
    count_by (contains state.taken) (numbers_below plan.size) ≡ length records
count_of_taken plan state class records reached buckets =
    let all : List ℕ = first_positions plan state.pilots (length plan.buckets) in
    let same : contains state.taken ≡ is_among all = λ i p. reached.taken_are_theirs p i in
    ap (λ f. count_by f (numbers_below plan.size)) same
    ∙ count_by-among all plan.size reached.distinct reached.in_the_table
    ∙ sym (count_by-all all)
    ∙ sym (count_of_found plan state class records (λ p. true) reached buckets)
    ∙ count_by-all records
