-- One value from the place of its one and its low bits; values in order.
use Rattle.std.proofs.Common.{◌≡◌, ℕ, zero, suc, ◌+◌, ◌*◌, ◌-◌, ◌/◌, ◌%◌, ◌^◌, ◌<◌, ◌≤◌, Bool, true, false, leb}
use Rattle.std.proofs.Common.{ltb, List, [], ◌∷◌, length, get_or, take, drop}
use Rattle.std.proofs.Common.{Some, None, refl, sym, ap, ◌∙◌, inl, inr, arith}
use Rattle.std.specs.Prelude.{◌⊎◌, IsSome}
use Rattle.std.specs.List.{slice_get}
use Rattle.std.specs.Prelude.{bit_or}
use Rattle.std.proofs.lemmas.List.Sums.{prefix_len-le-length, prefix_len_passes, prefix_len_stops}
use Rattle.std.proofs.Math.Nat.{pow-le-pow_right, mod-eq_of_lt}
use Rattle.std.proofs.lemmas.Nat.{mul-le, shr_high, mod_low, shr_split, or_shifted}
use Rattle.std.proofs.lemmas.Bool.{cases_lt, cases_order, and_parts, leb-true, le-leb, lt-leb, ltb-true, ltb-false}
use Rattle.std.proofs.lemmas.List.{drop-drop, drop_more, length-take}
use Rattle.bit_vector.specs.Bits.{number_of, places_from}
use Rattle.bit_vector.proofs.CallerLemmas.{number_of-lt}
use Rattle.elias_fano.specs.Spelling.{last_of, rises}
use Rattle.elias_fano.specs.Values.{joined, below_len}

-- a value is joined from the place of its one and its low bits
pub get_or-joined : (w k : ℕ) (ps : List ℕ) (low : List Bool) (i p : ℕ) → slice_get ps i ≡ Some p →
    get_or (joined w k ps low) i 0 ≡ (p - (k + i)) * 2 ^ w + number_of (take w (drop (i * w) low))
unfolding joined
get_or-joined w k [] low i p e = absurd cc
get_or-joined w k (q ∷ ps) low zero p e =
    let same : q ≡ p = cc in
    let start : 0 * w ≡ 0 = omega arith in
    let there : k + 0 ≡ k = omega arith in
    rw (same, start, there) refl
get_or-joined w k (q ∷ ps) low (suc i) p e =
    let next : k + 1 + i ≡ k + suc i = omega arith in
    let place : w + i * w ≡ suc i * w = omega arith in
    get_or-joined w (k + 1) ps (drop w low) i p e
    ∙ ap (λ (x : ℕ). (p - x) * 2 ^ w + number_of (take w (drop (i * w) (drop w low)))) next
    ∙ ap (λ (bs : List Bool). (p - (k + suc i)) * 2 ^ w + number_of (take w bs)) (drop-drop (i * w) w low ∙ ap (λ (j : ℕ). drop j low) place)

-- each place gives a value
pub length-joined : (w k : ℕ) (ps : List ℕ) (low : List Bool) → length (joined w k ps low) ≡ length ps
unfolding joined
length-joined w k [] low = refl
length-joined w k (p ∷ ps) low = ap suc (length-joined w (k + 1) ps (drop w low))

-- something stands before the end
pub slice_get-some : (ps : List ℕ) (i : ℕ) → i < length ps → IsSome (slice_get ps i)
slice_get-some [] i lt = absurd (omega arith)
slice_get-some (p ∷ ps) zero lt = refl
slice_get-some (p ∷ ps) (suc i) lt = slice_get-some ps i (omega arith)

-- nothing stands past the end
pub slice_get-none : (xs : List ℕ) (i : ℕ) → length xs ≤ i → slice_get xs i ≡ None
slice_get-none [] i le = refl
slice_get-none (x ∷ xs) zero le = absurd (omega arith)
slice_get-none (x ∷ xs) (suc i) le = slice_get-none xs i (omega arith)

-- what stands there is the value
pub slice_get-is : (xs : List ℕ) (i d : ℕ) → i < length xs → slice_get xs i ≡ Some (get_or xs i d)
slice_get-is [] i d lt = absurd (omega arith)
slice_get-is (x ∷ xs) zero d lt = refl
slice_get-is (x ∷ xs) (suc i) d lt = slice_get-is xs i d (omega arith)

-- a value that was found stands there
pub found_is : (vs : List ℕ) (i v : ℕ) → i < length vs → slice_get vs i ≡ Some v → get_or vs i 0 ≡ v
found_is vs i v lt e = let same : Some (get_or vs i 0) ≡ Some v = sym (slice_get-is vs i 0 lt) ∙ e in cc

-- a place is not below its number
pub place-le : (at : ℕ) (bs : List Bool) (i p : ℕ) → slice_get (places_from at bs) i ≡ Some p → at + i ≤ p
unfolding places_from
place-le at [] i p e = absurd cc
place-le at (true ∷ bs) zero p e = let same : at ≡ p = cc in omega arith
place-le at (true ∷ bs) (suc i) p e = omega (arith, place-le (at + 1) bs i p e)
place-le at (false ∷ bs) i p e = omega (arith, place-le (at + 1) bs i p e)

-- so many bits are a number below their power
pub low-lt : (w : ℕ) (bs : List Bool) → number_of (take w bs) < 2 ^ w
low-lt w bs =
    let more : 2 ^ length (take w bs) ≤ 2 ^ w = pow-le-pow_right (omega arith) (omega (arith, length-take w bs)) in
    omega (arith, number_of-lt (take w bs), more)

-- ---- order

-- a value below the bound doesn't rise
pub rises-no : (d v : ℕ) (vs : List ℕ) → v < d → rises d (v ∷ vs) ≡ false
unfolding rises
rises-no d v vs lt = rw (lt-leb d v lt) refl

-- a value from the bound on rises if the others rise from it
pub rises-yes : (d v : ℕ) (vs : List ℕ) → d ≤ v → rises d (v ∷ vs) ≡ rises v vs
unfolding rises
rises-yes d v vs le = rw (le-leb d v le) refl

-- nothing rises from any bound
pub rises-nil : (d : ℕ) → rises d [] ≡ true
unfolding rises
rises-nil d = refl

-- what rises has its first value from the bound on, and the others rise from it
pub rises-parts : (d v : ℕ) (vs : List ℕ) → rises d (v ∷ vs) ≡ true → (d ≤ v) × (rises v vs ≡ true)
unfolding rises
rises-parts d v vs h = let p = and_parts (leb d v) (rises v vs) h in (leb-true d v p.0, p.1)

-- what rises ends at its bound or above
pub bound-le-last : (d : ℕ) (vs : List ℕ) → rises d vs ≡ true → d ≤ last_of d vs
unfolding last_of
bound-le-last d [] h = omega arith
bound-le-last d (v ∷ vs) h = let p = rises-parts d v vs h in omega (arith, p.0, bound-le-last v vs p.1)

-- no value is above the last one
pub get_or-le-last : (d : ℕ) (vs : List ℕ) (i : ℕ) → rises d vs ≡ true → i < length vs → get_or vs i 0 ≤ last_of d vs
unfolding last_of
get_or-le-last d [] i h lt = absurd (omega arith)
get_or-le-last d (v ∷ vs) zero h lt = bound-le-last v vs (rises-parts d v vs h).1
get_or-le-last d (v ∷ vs) (suc i) h lt = get_or-le-last v vs i (rises-parts d v vs h).1 (omega arith)

-- the last value is that at the last index
pub last_of-is : (d : ℕ) (vs : List ℕ) → 0 < length vs → last_of d vs ≡ get_or vs (length vs - 1) 0
unfolding last_of
last_of-is d [] lt = absurd (omega arith)
last_of-is d (v ∷ []) lt = refl
last_of-is d (v ∷ w ∷ vs) lt =
    let same : suc (length vs) ≡ suc (suc (length vs)) - 1 = omega arith in
    let inner : length vs ≡ suc (length vs) - 1 = omega arith in
    last_of-is v (w ∷ vs) (omega arith) ∙ ap (λ (i : ℕ). get_or (w ∷ vs) i 0) (sym inner) ∙ ap (λ (i : ℕ). get_or (v ∷ w ∷ vs) i 0) same

-- without values the bound is the last
pub last_of-nil : (d : ℕ) → last_of d [] ≡ d
unfolding last_of
last_of-nil d = refl

-- one value more of a list that is looked at in order
pub rises-drop_yes : (vs : List ℕ) (i b v : ℕ) → i < length vs → v ≡ get_or vs i 0 → b ≤ v → rises b (drop i vs) ≡ rises v (drop (i + 1) vs)
rises-drop_yes vs i b v lt e le = ap (rises b) (drop_more vs i 0 lt) ∙ ap (λ (x : ℕ). rises b (x ∷ drop (i + 1) vs)) (sym e)
    ∙ rises-yes b v (drop (i + 1) vs) le

-- a value below the one before it, anywhere, doesn't rise
pub rises-drop_no : (vs : List ℕ) (i b v : ℕ) → i < length vs → v ≡ get_or vs i 0 → v < b → rises b (drop i vs) ≡ false
rises-drop_no vs i b v lt e less = ap (rises b) (drop_more vs i 0 lt) ∙ ap (λ (x : ℕ). rises b (x ∷ drop (i + 1) vs)) (sym e)
    ∙ rises-no b v (drop (i + 1) vs) less

-- ---- values by their parts

-- a value whose high part is below, or is the same with lower bits below, is below
pub parts-lt : (a b m n w : ℕ) → m < 2 ^ w → (a < b) ⊎ ((a ≡ b) × (m < n)) → a * 2 ^ w + m < b * 2 ^ w + n
parts-lt a b m n w small h =
    elim h [
      | inl lt ↦ omega (arith, mul-le (a + 1) (2 ^ w) b (2 ^ w) (omega arith) (omega arith))
      | inr p ↦ omega (arith, ap (λ (q : ℕ). q * 2 ^ w) p.0, p.1)
    ]

-- otherwise it is not
pub parts-le : (a b m n w : ℕ) → n < 2 ^ w → ((a < b) ⊎ ((a ≡ b) × (m < n)) → ⊥) → b * 2 ^ w + n ≤ a * 2 ^ w + m
parts-le a b m n w small h =
    elim (cases_order a b) [
      | inl e ↦
          elim (cases_lt m n) [
            | inl lt ↦ absurd (h (inr (e, lt)))
            | inr le ↦ omega (arith, ap (λ (q : ℕ). q * 2 ^ w) e)
          ]
      | inr rest ↦
          elim rest [
            | inl lt ↦ absurd (h (inl lt))
            | inr gt ↦ omega (arith, mul-le (b + 1) (2 ^ w) a (2 ^ w) (omega arith) (omega arith))
          ]
    ]

-- the parts of a number are its quotient and rest
pub parts-of : (h l w n : ℕ) → l < 2 ^ w → h * 2 ^ w + l ≡ n → (h ≡ n / 2 ^ w) × (l ≡ n % 2 ^ w)
parts-of h l w n small e = (sym (shr_high h w l small) ∙ ap (λ (m : ℕ). m / 2 ^ w) e, sym (mod_low h w l small) ∙ ap (λ (m : ℕ). m % 2 ^ w) e)

-- a quotient and a rest are the number
pub parts-join : (h l w n : ℕ) → h ≡ n / 2 ^ w → l ≡ n % 2 ^ w → h * 2 ^ w + l ≡ n
parts-join h l w n e f = ap (λ (q : ℕ). q * 2 ^ w + l) e ∙ ap (λ (q : ℕ). n / 2 ^ w * 2 ^ w + q) f ∙ shr_split n w

-- no value is below a bound of the list
bound-le-get : (d : ℕ) (vs : List ℕ) (i : ℕ) → rises d vs ≡ true → i < length vs → d ≤ get_or vs i 0
bound-le-get d [] i h lt = absurd (omega arith)
bound-le-get d (v ∷ vs) zero h lt = (rises-parts d v vs h).0
bound-le-get d (v ∷ vs) (suc i) h lt =
    let p = rises-parts d v vs h in
    omega (arith, p.0, bound-le-get v vs i p.1 (omega arith))

-- of two values the later one is not below the other
pub get_or-mono : (d : ℕ) (vs : List ℕ) (j i : ℕ) → rises d vs ≡ true → j ≤ i → i < length vs → get_or vs j 0 ≤ get_or vs i 0
get_or-mono d [] j i h le lt = absurd (omega arith)
get_or-mono d (v ∷ vs) zero zero h le lt = omega arith
get_or-mono d (v ∷ vs) zero (suc i) h le lt = bound-le-get v vs i (rises-parts d v vs h).1 (omega arith)
get_or-mono d (v ∷ vs) (suc j) zero h le lt = absurd (omega arith)
get_or-mono d (v ∷ vs) (suc j) (suc i) h le lt = get_or-mono v vs j i (rises-parts d v vs h).1 (omega arith) (omega arith)

-- ---- how many values are below a bound

-- not more than stand before one that is not
pub below_len-le : (bound : ℕ) (vs : List ℕ) (i : ℕ) → bound ≤ get_or vs i 0 → below_len bound vs ≤ i
below_len-le bound vs i le =
    elim (cases_lt i (below_len bound vs)) [
      | inl lt ↦
          let passes = ltb-true (get_or vs i 0) bound (prefix_len_passes (λ (v : ℕ). ltb v bound) vs i 0 lt) in
          absurd (omega (arith, passes))
      | inr ge ↦ ge
    ]

-- where the values rise, more than stand before one that is
pub below_len-gt : (bound : ℕ) (vs : List ℕ) (i : ℕ) → rises 0 vs ≡ true → i < length vs → get_or vs i 0 < bound → i < below_len bound vs
below_len-gt bound vs i h lt less =
    elim (cases_lt i (below_len bound vs)) [
      | inl more ↦ more
      | inr ge ↦
          let stops = ltb-false (get_or vs (below_len bound vs) 0) bound (prefix_len_stops (λ (v : ℕ). ltb v bound) vs 0 (omega arith)) in
          let up = get_or-mono 0 vs (below_len bound vs) i h ge lt in
          absurd (omega (arith, stops, up))
    ]

-- not more than there are
pub below_len-most : (bound : ℕ) (vs : List ℕ) → below_len bound vs ≤ length vs
below_len-most bound vs = prefix_len-le-length (λ (v : ℕ). ltb v bound) vs

-- all of them where the last one is
pub below_len-all : (bound : ℕ) (vs : List ℕ) → rises 0 vs ≡ true → last_of 0 vs < bound → length vs ≡ below_len bound vs
below_len-all bound vs h less =
    elim (cases_lt 0 (length vs)) [
      | inl some ↦
          let end = last_of-is 0 vs some in
          let more = below_len-gt bound vs (length vs - 1) h (omega arith) (omega (arith, end)) in
          omega (arith, more, below_len-most bound vs)
      | inr none ↦ omega (arith, below_len-most bound vs)
    ]

-- a value from its parts, where it is below 2 ^ 64
pub parts-word : (h l w v : ℕ) → l < 2 ^ w → h * 2 ^ w + l ≡ v → v < 2 ^ 64 → bit_or (h * 2 ^ w % 2 ^ 64) l ≡ v
parts-word h l w v small e fits =
    let below : h * 2 ^ w < 2 ^ 64 = omega (arith, e) in
    ap (λ (x : ℕ). bit_or x l) (mod-eq_of_lt below) ∙ or_shifted h w l small ∙ e
