-- Bits that are made of a list that rises.
use Rattle.std.proofs.Common.{◌≡◌, ℕ, zero, suc, ◌+◌, ◌*◌, ◌/◌, ◌^◌, ◌<◌, ◌≤◌, Bool, true, false, eqb, List, [], ◌∷◌}
use Rattle.std.proofs.Common.{◌++◌, length, get_or, take, set}
use Rattle.std.proofs.Common.{replicate, Result, Ok, Err, refl, sym, ap, ◌∙◌, inl, inr, arith}
use Rattle.std.specs.Prelude.{OnOk, ◌||◌}
use Rattle.std.proofs.lemmas.Bool.{cases_lt, cases_Bool, eq-eqb, ne_eqb}
use Rattle.std.proofs.lemmas.List.{nil_from_length, take_more, length-take-le}
use Rattle.bit_vector.specs.declared.bits.NoMemory.{NoMemory}
use Rattle.bit_vector.specs.Bits.{bits_of_each}
use Rattle.elias_fano.specs.Spelling.{last_of, rises, low_width, high_places, is_among, marks, high_len, high_bits, IsRising}
use Rattle.elias_fano.specs.Values.{values_of, AreValues}
use Rattle.elias_fano.proofs.ValueLemmas.{last_of-nil, get_or-le-last}
use Rattle.elias_fano.proofs.TextLemmas.{shr-mono, list-values}

-- among one more
pub is_among-push : (n : ℕ) (ps : List ℕ) (p : ℕ) → is_among n (ps ++ p ∷ []) ≡ (is_among n ps || eqb n p)
unfolding is_among
is_among-push n [] p = elim (cases_Bool (eqb n p)) [ inl t ↦ rw t refl | inr f ↦ rw f refl ]
is_among-push n (q ∷ ps) p = elim (cases_Bool (eqb n q)) [ inl t ↦ rw t refl | inr f ↦ rw f (is_among-push n ps p) ]

-- `||` with true
or_yes : (b : Bool) → (b || true) ≡ true
or_yes true = refl
or_yes false = refl

-- `||` with false
or_no : (b : Bool) → (b || false) ≡ b
or_no true = refl
or_no false = refl

-- the last is among them
among_last : (n : ℕ) (ps : List ℕ) → is_among n (ps ++ n ∷ []) ≡ true
among_last n ps = is_among-push n ps n ∙ ap (λ (b : Bool). is_among n ps || b) (eq-eqb n n refl) ∙ or_yes (is_among n ps)

-- another last one makes no difference
among_others : (n p : ℕ) (ps : List ℕ) → (n ≡ p → ⊥) → is_among n (ps ++ p ∷ []) ≡ is_among n ps
among_others n p ps ne = is_among-push n ps p ∙ ap (λ (b : Bool). is_among n ps || b) (ne_eqb n p ne) ∙ or_no (is_among n ps)

-- a place that is passed changes nothing
marks-past : (at n p : ℕ) (ps : List ℕ) → p < at → marks at n (ps ++ p ∷ []) ≡ marks at n ps
unfolding marks
marks-past at zero p ps lt = refl
marks-past at (suc n) p ps lt =
    rw (among_others at p ps (λ e. omega (arith, e, lt))) (ap (λ (bs : List Bool). is_among at ps ∷ bs) (marks-past (at + 1) n p ps (omega arith)))

-- one place more
marks-set : (at n k : ℕ) (ps : List ℕ) → k < n → set (marks at n ps) k true ≡ marks at n (ps ++ (at + k) ∷ [])
unfolding marks
marks-set at zero k ps lt = absurd (omega arith)
marks-set at (suc n) zero ps lt =
    let here : at + 0 ≡ at = omega arith in
    rw (here, among_last at ps, marks-past (at + 1) n at ps (omega arith)) refl
marks-set at (suc n) (suc k) ps lt =
    let there : at + suc k ≡ at + 1 + k = omega arith in
    rw (there, among_others at (at + 1 + k) ps (λ e. omega (arith, e)))
    (ap (λ (bs : List Bool). is_among at ps ∷ bs) (marks-set (at + 1) n k ps (omega arith)))

-- no bit is set yet
no_marks : (at n : ℕ) → replicate n false ≡ marks at n []
unfolding marks is_among
no_marks at zero = refl
no_marks at (suc n) = ap (λ (bs : List Bool). false ∷ bs) (no_marks (at + 1) n)

-- the place of one value more
high_places-push : (w k : ℕ) (vs : List ℕ) (v : ℕ) → high_places w k (vs ++ v ∷ []) ≡ high_places w k vs ++ (v / 2 ^ w + (k + length vs)) ∷ []
unfolding high_places
high_places-push w k [] v = ap (λ (p : ℕ). p ∷ []) (omega arith)
high_places-push w k (x ∷ vs) v =
    ap (λ (ps : List ℕ). (x / 2 ^ w + k) ∷ ps) (high_places-push w (k + 1) vs v ∙ ap (λ (p : ℕ). high_places w (k + 1) vs ++ p ∷ []) (omega arith))

-- no value has its one yet
pub high_first : (w n : ℕ) → replicate n false ≡ marks 0 n (high_places w 0 [])
unfolding high_places
high_first w n = no_marks 0 n

-- the place of a value's one is within the high bits
pub place_within : (w : ℕ) (vs : List ℕ) (i : ℕ) → rises 0 vs ≡ true → i < length vs →
    get_or vs i 0 / 2 ^ w + i < high_len (length vs) (last_of 0 vs) w
place_within w vs i h lt = omega (arith, lt, shr-mono (get_or vs i 0) (last_of 0 vs) w (get_or-le-last 0 vs i h lt))

-- one value more
pub high_step : (w n : ℕ) (vs : List ℕ) (i : ℕ) (high : List Bool) → i < length vs → get_or vs i 0 / 2 ^ w + i < n →
    high ≡ marks 0 n (high_places w 0 (take i vs)) →
    set high (get_or vs i 0 / 2 ^ w + i) true ≡ marks 0 n (high_places w 0 (take (i + 1) vs))
high_step w n vs i high lt within e =
    let v = get_or vs i 0 in
    let p = v / 2 ^ w + i in
    let few : length (take i vs) ≡ i = length-take-le i vs (omega arith) in
    let there : 0 + p ≡ v / 2 ^ w + (0 + length (take i vs)) = omega (arith, few) in
    ap (λ (bs : List Bool). set bs p true) e ∙ marks-set 0 n p (high_places w 0 (take i vs)) within
    ∙ ap (λ (x : ℕ). marks 0 n (high_places w 0 (take i vs) ++ x ∷ [])) there
    ∙ ap (λ (ps : List ℕ). marks 0 n ps) (sym (high_places-push w 0 (take i vs) v))
    ∙ ap (λ (xs : List ℕ). marks 0 n (high_places w 0 xs)) (sym (take_more vs i 0 lt))

-- what follows from what holds of an Ok holds of it
pub on_ok-map : (r : Result (Unit {0}) NoMemory) (A B : Type 0) → (A → B) → OnOk r A → OnOk r B
on_ok-map (Ok x) A B f a = f a
on_ok-map (Err e) A B f a = tt

-- the bits that were made are those of the list
pub built : (vs : List ℕ) (last w : ℕ) (low high : List Bool) → rises 0 vs ≡ true → length vs ≤ 2 ^ 36 → last ≡ last_of 0 vs →
    last < 2 ^ 64 →
    w ≡ low_width (length vs) last → low ≡ bits_of_each w vs →
    high ≡ high_bits w vs → AreValues (length vs) last w low high × (values_of w low high ≡ vs)
built vs last w low high r few l small wide lows highs =
    let rising : IsRising vs = record { rising = r; fits = omega (arith, l, small); few = few } in
    let w-is : w ≡ low_width (length vs) (last_of 0 vs) = wide ∙ ap (λ (u : ℕ). low_width (length vs) u) l in
    let p = list-values vs rising in
    rw (lows, highs, l, w-is) (
      record {
        parts = p.0;
        fits = rising.fits;
        rising = ap (λ (xs : List ℕ). rises 0 xs) p.1 ∙ r;
        last_is = ap (λ (xs : List ℕ). last_of 0 xs) p.1;
      },
      p.1,
    )

-- what is above the low bits of the last value is at most twice the greatest count
pub last_high : (count last w : ℕ) → (0 < count → last / 2 ^ w ≤ 2 * count) → (count ≡ 0 → last ≡ 0) → count ≤ 2 ^ 36 →
    last / 2 ^ w ≤ 2 ^ 37
last_high count last w some none few =
    elim (cases_lt 0 count) [
      | inl lt ↦ omega (arith, some lt)
      | inr le ↦ omega (arith, ap (λ (x : ℕ). x / 2 ^ w) (none (omega arith)), Rattle.std.proofs.Math.Nat.zero-div (2 ^ w))
    ]

-- an empty list ends at its bound
pub last_of-none : (vs : List ℕ) → length vs ≡ 0 → last_of 0 vs ≡ 0
last_of-none vs e = ap (λ (xs : List ℕ). last_of 0 xs) (nil_from_length vs e) ∙ last_of-nil 0
