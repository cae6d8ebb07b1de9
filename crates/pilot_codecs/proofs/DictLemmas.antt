-- A dictionary that rises, and indexes into it.
use Rattle.std.proofs.Common.{◌≡◌, ℕ, zero, suc, ◌+◌, ◌<◌, ◌≤◌, Bool, true, false, eqb, ltb, List, [], ◌∷◌, length, get_or, take}
use Rattle.std.proofs.Common.{drop, set, Some, refl, sym}
use Rattle.std.proofs.Common.{ap, ◌∙◌, inl, inr, arith}
use Rattle.std.proofs.Math.Bool.{beq}
use Rattle.std.specs.Prelude.{not, ◌||◌}
use Rattle.std.specs.List.{list_any}
use Rattle.std.proofs.lemmas.Bool.{false≢true, cases_lt, cases_eq, and_parts, and_from, ltb-true, lt-ltb, le-ltb, eq-eqb, ne_eqb}
use Rattle.std.proofs.lemmas.List.{drop_more, take_more, get_or-set_same, get_or-set_other}
use Rattle.elias_fano.specs.Spelling.{is_among}
use Rattle.elias_fano.proofs.CallerLemmas.{is_among-push}
use Rattle.pilot_codecs.specs.Reading.{rise_from, rise_len, are_below, are_used}

-- two truth values that follow from each other are the same
pub same_bool : (b c : Bool) → (b ≡ true → c ≡ true) → (c ≡ true → b ≡ true) → b ≡ c
same_bool true c f g = sym (f refl)
same_bool false true f g = g refl
same_bool false false f g = refl

-- no mark is clear
pub set_each : (marks : List Bool) → not (list_any (λ b. beq b false) marks) ≡ true → (k : ℕ) → k < length marks → get_or marks k false ≡ true
set_each [] h k lt = absurd (omega (arith, lt))
set_each (false ∷ bs) h k lt = absurd cc
set_each (true ∷ bs) h zero lt = refl
set_each (true ∷ bs) h (suc k) lt = set_each bs h k (omega (arith, lt))

-- and back
pub each_set : (marks : List Bool) → ((k : ℕ) → k < length marks → get_or marks k false ≡ true) → not (list_any (λ b. beq b false) marks) ≡ true
each_set [] h = refl
each_set (false ∷ bs) h = absurd (false≢true (h 0 (omega arith)))
each_set (true ∷ bs) h = each_set bs (λ k lt. h (suc k) (omega (arith, lt)))

-- what is there is the same if it is the same answer
pub some_is : (x y : ℕ) → Some x ≡ Some y → x ≡ y
some_is x y e = cc

-- ---- rising

-- a number above the one before is counted
pub rise_from-yes : (b d : ℕ) (ds : List ℕ) → b < d → rise_from b (d ∷ ds) ≡ rise_from d ds + 1
unfolding rise_from
rise_from-yes b d ds lt = rw (lt-ltb b d lt) refl

-- at one that isn't the count ends
pub rise_from-no : (b d : ℕ) (ds : List ℕ) → d ≤ b → rise_from b (d ∷ ds) ≡ 0
unfolding rise_from
rise_from-no b d ds le = rw (le-ltb b d le) refl

-- nothing more is counted at the end
pub rise_from-nil : (b : ℕ) → rise_from b [] ≡ 0
unfolding rise_from
rise_from-nil b = refl

-- the first is always counted
pub rise_len-cons : (d : ℕ) (ds : List ℕ) → rise_len (d ∷ ds) ≡ rise_from d ds + 1
unfolding rise_len
rise_len-cons d ds = refl

-- none is counted where there is none
pub rise_len-nil : rise_len [] ≡ 0
unfolding rise_len
rise_len-nil = refl

-- all that rise are the first and those that rise from it
pub rise_first : (ds : List ℕ) → 0 < length ds → rise_from (get_or ds 0 0) (drop 1 ds) + 1 ≡ rise_len ds
rise_first [] lt = absurd (omega arith)
rise_first (d ∷ ds) lt = sym (rise_len-cons d ds)

-- a number above the one before it is counted, anywhere
pub rise_step : (ds : List ℕ) (i b : ℕ) → i < length ds → b < get_or ds i 0 →
    rise_from b (drop i ds) ≡ rise_from (get_or ds i 0) (drop (i + 1) ds) + 1
rise_step ds i b lt up = ap (λ (xs : List ℕ). rise_from b xs) (drop_more ds i 0 lt) ∙ rise_from-yes b (get_or ds i 0) (drop (i + 1) ds) up

-- at one that isn't the count ends, anywhere
pub rise_stop : (ds : List ℕ) (i b : ℕ) → i < length ds → get_or ds i 0 ≤ b → rise_from b (drop i ds) ≡ 0
rise_stop ds i b lt down = ap (λ (xs : List ℕ). rise_from b xs) (drop_more ds i 0 lt) ∙ rise_from-no b (get_or ds i 0) (drop (i + 1) ds) down

-- ---- indexes below a bound

-- an index below the bound leaves the others to be looked at
pub are_below-step : (n : ℕ) (ps : List ℕ) (i : ℕ) → i < length ps → get_or ps i 0 < n → are_below n (drop i ps) ≡ are_below n (drop (i + 1) ps)
unfolding are_below
are_below-step n ps i lt small = ap (λ (xs : List ℕ). are_below n xs) (drop_more ps i 0 lt) ∙ rw (lt-ltb (get_or ps i 0) n small) refl

-- one that isn't makes the answer false
pub are_below-stop : (n : ℕ) (ps : List ℕ) (i : ℕ) → i < length ps → n ≤ get_or ps i 0 → are_below n (drop i ps) ≡ false
unfolding are_below
are_below-stop n ps i lt large = ap (λ (xs : List ℕ). are_below n xs) (drop_more ps i 0 lt) ∙ rw (le-ltb (get_or ps i 0) n large) refl

-- no index is above any bound
pub are_below-nil : (n : ℕ) → are_below n [] ≡ true
unfolding are_below
are_below-nil n = refl

-- each index is below the bound where all are
pub are_below-at : (n : ℕ) (ps : List ℕ) (i : ℕ) → are_below n ps ≡ true → i < length ps → get_or ps i 0 < n
unfolding are_below
are_below-at n [] i h lt = absurd (omega arith)
are_below-at n (p ∷ ps) zero h lt = ltb-true p n (and_parts (ltb p n) (are_below n ps) h).0
are_below-at n (p ∷ ps) (suc i) h lt = are_below-at n ps i (and_parts (ltb p n) (are_below n ps) h).1 (omega arith)

-- ---- each one used

-- each entry is named where all are
pub are_used-at : (n : ℕ) (ps : List ℕ) (d : ℕ) → are_used n ps ≡ true → d < n → is_among d ps ≡ true
unfolding are_used
are_used-at zero ps d h lt = absurd (omega arith)
are_used-at (suc n) ps d h lt =
    let p = and_parts (is_among n ps) (are_used n ps) h in
    elim (cases_eq d n) [
      | inl e ↦ rw e p.0
      | inr ne ↦ are_used-at n ps d p.1 (omega (arith, ne))
    ]

-- all are named where each is
pub are_used-from : (n : ℕ) (ps : List ℕ) → ((d : ℕ) → d < n → is_among d ps ≡ true) → are_used n ps ≡ true
unfolding are_used
are_used-from zero ps h = refl
are_used-from (suc n) ps h = and_from (is_among n ps) (are_used n ps) (h n (omega arith)) (are_used-from n ps (λ d lt. h d (omega arith)))

-- nothing is among none
pub is_among-nil : (n : ℕ) → is_among n [] ≡ false
unfolding is_among
is_among-nil n = refl

-- what is among one more is among them or is that one
pub is_among-more : (n : ℕ) (ps : List ℕ) (i : ℕ) → i < length ps → is_among n (take (i + 1) ps) ≡ (is_among n (take i ps) || eqb n (get_or ps i 0))
is_among-more n ps i lt = ap (λ (xs : List ℕ). is_among n xs) (take_more ps i 0 lt) ∙ is_among-push n (take i ps) (get_or ps i 0)

-- anything or true is true
or_yes : (b : Bool) → (b || true) ≡ true
or_yes true = refl
or_yes false = refl

-- anything or false is itself
pub or_no : (b : Bool) → (b || false) ≡ b
or_no true = refl
or_no false = refl

-- the last of three may be put to the second first
or_assoc : (a b c : Bool) → ((a || b) || c) ≡ (a || (b || c))
or_assoc true b c = refl
or_assoc false b c = refl

-- a mark more marks what one index more names, beside what was marked before
pub mark_more : (used : List Bool) (ps : List ℕ) (i p d : ℕ) (was : Bool) → i < length ps → p ≡ get_or ps i 0 → p < length used →
    get_or used d false ≡ (was || is_among d (take i ps)) → get_or (set used p true) d false ≡ (was || is_among d (take (i + 1) ps))
mark_more used ps i p d was lt e small so_far =
    let more : is_among d (take (i + 1) ps) ≡ (is_among d (take i ps) || eqb d p) = is_among-more d ps i lt
    ∙ ap (λ (x : ℕ). is_among d (take i ps) || eqb d x) (sym e) in
    let all : ((was || is_among d (take i ps)) || eqb d p) ≡ (was || is_among d (take (i + 1) ps)) = or_assoc was (is_among d (take i ps)) (eqb d p)
    ∙ ap (λ (b : Bool). was || b) (sym more) in
    elim (cases_eq d p) [
      | inl same ↦
          ap (λ (x : ℕ). get_or (set used p true) x false) same ∙ get_or-set_same used p true false small
          ∙ sym (or_yes (was || is_among d (take i ps))) ∙ ap (λ (b : Bool). (was || is_among d (take i ps)) || b) (sym (eq-eqb d p same)) ∙ all
      | inr ne ↦
          get_or-set_other used p d true false ne ∙ so_far ∙ sym (or_no (was || is_among d (take i ps)))
          ∙ ap (λ (b : Bool). (was || is_among d (take i ps)) || b) (sym (ne_eqb d p ne)) ∙ all
    ]

-- the same for each index, where nothing was marked before
pub marked_more : (used : List Bool) (ps : List ℕ) (i p size : ℕ) → length used ≡ size → i < length ps → p ≡ get_or ps i 0 → p < size →
    ((d : ℕ) → d < size → get_or used d false ≡ is_among d (take i ps)) →
    (d : ℕ) → d < size → get_or (set used p true) d false ≡ is_among d (take (i + 1) ps)
marked_more used ps i p size n lt e small so_far d ok = mark_more used ps i p d false lt e (omega (arith, n, small)) (so_far d ok)

-- at most all are counted
rise_from-le : (b : ℕ) (ds : List ℕ) → rise_from b ds ≤ length ds
unfolding rise_from
rise_from-le b [] = omega arith
rise_from-le b (d ∷ ds) =
    elim (cases_lt b d) [
      | inl lt ↦ rw (lt-ltb b d lt) (omega (arith, rise_from-le d ds))
      | inr le ↦ rw (le-ltb b d le) (omega arith)
    ]

-- at most all numbers rise
pub rise_len-le : (ds : List ℕ) → rise_len ds ≤ length ds
unfolding rise_len
rise_len-le [] = omega arith
rise_len-le (d ∷ ds) = omega (arith, rise_from-le d ds)
