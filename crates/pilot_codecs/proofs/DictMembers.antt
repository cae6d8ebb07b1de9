-- Members of a list by their index, and lists that rise.
use Rattle.std.proofs.Common.{◌≡◌, ℕ, zero, suc, ◌+◌, ◌<◌, ◌≤◌, true, false, eqb, List, [], ◌∷◌}
use Rattle.std.proofs.Common.{length, get_or}
use Rattle.std.proofs.Common.{refl, sym, ap, ◌∙◌, inl, inr, arith}
use Rattle.std.proofs.lemmas.Bool.{cases_lt, cases_Bool, or_cases, lt-ltb, eq-eqb, ne_eqb, eqb-true, false≢true}
use Rattle.elias_fano.specs.Spelling.{is_among}
use Rattle.pilot_codecs.specs.Spelling.{greatest}
use Rattle.pilot_codecs.specs.Reading.{rise_from, rise_len}
use Rattle.pilot_codecs.proofs.DictLemmas.{rise_from-yes, rise_from-no}

-- ---- membership by index

-- what is among others stands at some index
pub index_of_among : (x : ℕ) (xs : List ℕ) → is_among x xs ≡ true → (i : ℕ) × (i < length xs) × (get_or xs i 0 ≡ x)
unfolding is_among
index_of_among x [] h = absurd (false≢true h)
index_of_among x (y ∷ ys) h =
    elim (or_cases (eqb x y) (is_among x ys) h) [
      | inl e ↦ (0, omega arith, sym (eqb-true x y e))
      | inr r ↦ let p = index_of_among x ys r in (suc p.0, omega (arith, p.1), p.2)
    ]

-- what stands at an index is among them
pub among_at : (xs : List ℕ) (i : ℕ) → i < length xs → is_among (get_or xs i 0) xs ≡ true
unfolding is_among
among_at [] i lt = absurd (omega arith)
among_at (y ∷ ys) zero lt = rw (eq-eqb y y refl) refl
among_at (y ∷ ys) (suc i) lt =
    elim (cases_Bool (eqb (get_or ys i 0) y)) [
      | inl e ↦ rw e refl
      | inr n ↦ rw n (among_at ys i (omega arith))
    ]

-- so is what equals it
pub among_by : (x : ℕ) (xs : List ℕ) (i : ℕ) → i < length xs → get_or xs i 0 ≡ x → is_among x xs ≡ true
among_by x xs i lt e = ap (λ (y : ℕ). is_among y xs) (sym e) ∙ among_at xs i lt

-- a bound of each is one of the greatest
pub greatest_within : (m : ℕ) (xs : List ℕ) → ((i : ℕ) → i < length xs → get_or xs i 0 ≤ m) → greatest xs ≤ m
unfolding greatest
greatest_within m [] h = omega arith
greatest_within m (x ∷ xs) h = omega (arith, h 0 (omega arith), greatest_within m xs (λ i lt. h (suc i) (omega arith)))

-- ---- rising from a least number on

-- each is above the one before, and the first not below a least number
abbrev pub Up : ℕ → List ℕ → Type 0
Up least [] = Unit {0}
Up least (d ∷ ds) = (least ≤ d) × Up (suc d) ds

-- numbers that all rise from one are above it
up_from-rise_from : (b : ℕ) (ds : List ℕ) → rise_from b ds ≡ length ds → Up (suc b) ds
unfolding rise_from
up_from-rise_from b [] h = tt
up_from-rise_from b (d ∷ ds) h =
    elim (cases_lt b d) [
      | inl lt ↦
          let e : rise_from d ds + 1 ≡ suc (length ds) = sym (rise_from-yes b d ds lt) ∙ h in
          (omega arith, up_from-rise_from d ds (omega (arith, e)))
      | inr le ↦
          let e : 0 ≡ suc (length ds) = sym (rise_from-no b d ds le) ∙ h in
          absurd (omega (arith, e))
    ]

-- numbers that all rise, rise from 0
pub up_from-rise_len : (ds : List ℕ) → rise_len ds ≡ length ds → Up 0 ds
unfolding rise_len
up_from-rise_len [] h = tt
up_from-rise_len (d ∷ ds) h = (omega arith, up_from-rise_from d ds (omega (arith, h)))

-- numbers above one that rise are all counted
rise_from-up : (b : ℕ) (ds : List ℕ) → Up (suc b) ds → rise_from b ds ≡ length ds
unfolding rise_from
rise_from-up b [] h = refl
rise_from-up b (d ∷ ds) h = rw (lt-ltb b d (omega (arith, h.0))) (omega (arith, rise_from-up d ds h.1))

-- numbers that rise are all counted
pub rise_len-up : (least : ℕ) (ds : List ℕ) → Up least ds → rise_len ds ≡ length ds
unfolding rise_len
rise_len-up least [] h = refl
rise_len-up least (d ∷ ds) h = omega (arith, rise_from-up d ds h.1)

-- each of them is not below the least number
pub up_at : (least : ℕ) (ds : List ℕ) (i : ℕ) → Up least ds → i < length ds → least ≤ get_or ds i 0
up_at least [] i h lt = absurd (omega arith)
up_at least (d ∷ ds) zero h lt = h.0
up_at least (d ∷ ds) (suc i) h lt = omega (arith, h.0, up_at (suc d) ds i h.1 (omega arith))

-- nothing below the least number is among them
pub not_among : (least x : ℕ) (ds : List ℕ) → Up least ds → x < least → is_among x ds ≡ false
unfolding is_among
not_among least x [] h lt = refl
not_among least x (d ∷ ds) h lt = rw (ne_eqb x d (λ e. omega (arith, e, h.0))) (not_among (suc d) x ds h.1 (omega (arith, h.0)))
