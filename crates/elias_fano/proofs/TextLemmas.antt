-- A list and the bits that it is written in.
use Rattle.std.proofs.Common.{◌≡◌, ℕ, zero, suc, ◌+◌, ◌*◌, ◌-◌, ◌/◌, ◌%◌, ◌^◌, ◌<◌, ◌≤◌, Bool, true, false, List}
use Rattle.std.proofs.Common.{[], ◌∷◌, ◌++◌, length, take, drop, refl}
use Rattle.std.proofs.Common.{sym, ap, ◌∙◌, inl, inr, arith}
use Rattle.std.proofs.lemmas.Bool.{cases_lt, eq-eqb, ne_eqb}
use Rattle.std.proofs.lemmas.Nat.{shr_split, shr_high}
use Rattle.std.proofs.lemmas.List.{take-append-drop, take_at, drop_at, length-take, length-drop}
use Rattle.bit_vector.specs.Bits.{bits_of, bits_of_each, number_of, places_from, places}
use Rattle.bit_vector.proofs.CallerLemmas.{bits_of-high, length-bits_of_each}
use Rattle.bit_vector.proofs.CallerLemmas.{length-bits_of, bits_of-number_of, number_of-bits_of, length-places_from}
use Rattle.elias_fano.specs.Spelling.{last_of, rises, high_places, is_among, marks, high_len, low_width, ef_text, text_at, number, run, IsRising}
use Rattle.elias_fano.specs.Values.{joined, values_of, AreParts, AreValues}
use Rattle.elias_fano.proofs.ValueLemmas.{low-lt, length-joined, rises-parts, rises-yes, bound-le-last}

-- the low bits of joined values are these low bits
pub bits_of_each-joined : (w k : ℕ) (ps : List ℕ) (low : List Bool) → length low ≡ length ps * w → bits_of_each w (joined w k ps low) ≡ low
unfolding bits_of_each joined
bits_of_each-joined w k [] low e = sym (Rattle.std.proofs.lemmas.List.nil_from_length low (omega (arith, e)))
bits_of_each-joined w k (p ∷ ps) low e =
    let size : length (take w low) ≡ w = omega (arith, length-take w low, e) in
    let first : bits_of w ((p - k) * 2 ^ w + number_of (take w low)) ≡ take w low =
    bits_of-high w (number_of (take w low)) (p - k) (low-lt w low) ∙ ap (λ (j : ℕ). bits_of j (number_of (take w low))) (sym size)
    ∙ bits_of-number_of (take w low) in
    let others = bits_of_each-joined w (k + 1) ps (drop w low) (omega (arith, length-drop w low, e)) in
    ap (λ (bs : List Bool). bs ++ bits_of_each w (joined w (k + 1) ps (drop w low))) first ∙ ap (λ (bs : List Bool). take w low ++ bs) others
    ∙ take-append-drop w low

-- the places of joined values are these places
pub high_places-joined : (w k at : ℕ) (bs low : List Bool) → k ≤ at → high_places w k (joined w k (places_from at bs) low) ≡ places_from at bs
unfolding high_places joined places_from
high_places-joined w k at [] low le = refl
high_places-joined w k at (true ∷ bs) low le =
    let high : ((at - k) * 2 ^ w + number_of (take w low)) / 2 ^ w ≡ at - k = shr_high (at - k) w (number_of (take w low)) (low-lt w low) in
    let first : ((at - k) * 2 ^ w + number_of (take w low)) / 2 ^ w + k ≡ at = omega (arith, high) in
    ap (λ (x : ℕ). x ∷ high_places w (k + 1) (joined w (k + 1) (places_from (at + 1) bs) (drop w low))) first
    ∙ ap (λ (xs : List ℕ). at ∷ xs) (high_places-joined w (k + 1) (at + 1) bs (drop w low) (omega arith))
high_places-joined w k at (false ∷ bs) low le = high_places-joined w k (at + 1) bs low (omega arith)

-- a place before all of them
is_among-before : (x at : ℕ) (bs : List Bool) → x < at → is_among x (places_from at bs) ≡ false
unfolding is_among places_from
is_among-before x at [] lt = refl
is_among-before x at (true ∷ bs) lt = rw (ne_eqb x at (λ e. omega (arith, e))) (is_among-before x (at + 1) bs (omega arith))
is_among-before x at (false ∷ bs) lt = is_among-before x (at + 1) bs (omega arith)

-- a place that is passed changes nothing
marks-passed : (at n p : ℕ) (ps : List ℕ) → p < at → marks at n (p ∷ ps) ≡ marks at n ps
unfolding marks is_among
marks-passed at zero p ps lt = refl
marks-passed at (suc n) p ps lt =
    rw (ne_eqb at p (λ e. omega (arith, e))) (ap (λ (bs : List Bool). is_among at ps ∷ bs) (marks-passed (at + 1) n p ps (omega arith)))

-- marks at the places of the ones are the bits
pub marks-places_from : (at : ℕ) (bs : List Bool) → marks at (length bs) (places_from at bs) ≡ bs
unfolding marks is_among places_from
marks-places_from at [] = refl
marks-places_from at (true ∷ bs) =
    rw (eq-eqb at at refl) (ap (λ (cs : List Bool). true ∷ cs) (marks-passed (at + 1) (length bs) at (places_from (at + 1) bs) (omega arith)
    ∙ marks-places_from (at + 1) bs))
marks-places_from at (false ∷ bs) =
    rw (is_among-before at (at + 1) bs (omega arith)) (ap (λ (cs : List Bool). false ∷ cs) (marks-places_from (at + 1) bs))

-- values are joined from their places and low bits
pub joined-high_places : (w k : ℕ) (vs : List ℕ) → joined w k (high_places w k vs) (bits_of_each w vs) ≡ vs
unfolding joined high_places bits_of_each
joined-high_places w k [] = refl
joined-high_places w k (v ∷ vs) =
    let high : v / 2 ^ w + k - k ≡ v / 2 ^ w = omega arith in
    let size = length-bits_of w v in
    let low : number_of (take w (bits_of w v ++ bits_of_each w vs)) ≡ v % 2 ^ w = ap number_of (take_at (bits_of w v) (bits_of_each w vs) w size)
    ∙ number_of-bits_of w v in
    let rest : drop w (bits_of w v ++ bits_of_each w vs) ≡ bits_of_each w vs = drop_at (bits_of w v) (bits_of_each w vs) w size in
    let first : (v / 2 ^ w + k - k) * 2 ^ w + number_of (take w (bits_of w v ++ bits_of_each w vs)) ≡ v =
    ap (λ (x : ℕ). x * 2 ^ w + number_of (take w (bits_of w v ++ bits_of_each w vs))) high ∙ ap (λ (x : ℕ). v / 2 ^ w * 2 ^ w + x) low
    ∙ shr_split v w in
    ap (λ (x : ℕ). x ∷ joined w (k + 1) (high_places w (k + 1) vs) (drop w (bits_of w v ++ bits_of_each w vs))) first
    ∙ ap (λ (bs : List Bool). v ∷ joined w (k + 1) (high_places w (k + 1) vs) bs) rest
    ∙ ap (λ (xs : List ℕ). v ∷ xs) (joined-high_places w (k + 1) vs)

-- each value has a place
pub length-high_places : (w k : ℕ) (vs : List ℕ) → length (high_places w k vs) ≡ length vs
unfolding high_places
length-high_places w k [] = refl
length-high_places w k (v ∷ vs) = ap suc (length-high_places w (k + 1) vs)

-- as many marks as asked for are made
pub length-marks : (at n : ℕ) (ps : List ℕ) → length (marks at n ps) ≡ n
unfolding marks
length-marks at zero ps = refl
length-marks at (suc n) ps = ap suc (length-marks (at + 1) n ps)

-- a shift keeps the order
pub shr-mono : (a b w : ℕ) → a ≤ b → a / 2 ^ w ≤ b / 2 ^ w
shr-mono a b w le = lib.Pow.shr_mono w le

-- a place before those of a list that rises
high_places-before : (w k d x : ℕ) (vs : List ℕ) → rises d vs ≡ true → x < d / 2 ^ w + k → is_among x (high_places w k vs) ≡ false
unfolding is_among high_places
high_places-before w k d x [] h lt = refl
high_places-before w k d x (v ∷ vs) h lt =
    let p = rises-parts d v vs h in
    let more = shr-mono d v w p.0 in
    rw (ne_eqb x (v / 2 ^ w + k) (λ e. omega (arith, e, more))) (high_places-before w (k + 1) v x vs p.1 (omega (arith, more)))

-- no marks have no places
places_from-no_marks : (at n : ℕ) → places_from at (marks at n []) ≡ []
unfolding places_from marks is_among
places_from-no_marks at zero = refl
places_from-no_marks at (suc n) = places_from-no_marks (at + 1) n

-- the places of the marks are those that were marked
pub places_from-marks : (w k d at n : ℕ) (vs : List ℕ) → rises d vs ≡ true → at ≤ d / 2 ^ w + k →
    last_of d vs / 2 ^ w + k + length vs ≤ at + n →
    places_from at (marks at n (high_places w k vs)) ≡ high_places w k vs
unfolding places_from marks is_among high_places last_of
places_from-marks w k d at zero [] h low high = refl
places_from-marks w k d at zero (v ∷ vs) h low high =
    let p = rises-parts d v vs h in
    absurd (omega (arith, shr-mono d v w p.0, shr-mono v (last_of v vs) w (bound-le-last v vs p.1)))
places_from-marks w k d at (suc n) [] h low high = places_from-no_marks (at + 1) n
places_from-marks w k d at (suc n) (v ∷ vs) h low high =
    let p = rises-parts d v vs h in
    let more = shr-mono d v w p.0 in
    elim (cases_lt at (v / 2 ^ w + k)) [
      | inl lt ↦
          rw (ne_eqb at (v / 2 ^ w + k) (λ e. omega (arith, e)), high_places-before w (k + 1) v at vs p.1 (omega arith))
          (places_from-marks w k v (at + 1) n (v ∷ vs) (rises-yes v v vs (omega arith) ∙ p.1) (omega arith) (omega (arith, high)))
      | inr le ↦
          let here : at ≡ v / 2 ^ w + k = omega (arith, more) in
          let place = v / 2 ^ w + k in
          let others = high_places w (k + 1) vs in
          rw (eq-eqb at place here)
          (ap (λ (x : ℕ). x ∷ places_from (at + 1) (marks (at + 1) n (place ∷ others))) here
          ∙ ap (λ (ps : List ℕ). place ∷ ps) (ap (λ (bs : List Bool). places_from (at + 1) bs) (marks-passed (at + 1) n place others (omega arith))
          ∙ places_from-marks w (k + 1) v (at + 1) n vs p.1 (omega (arith, here)) (omega (arith, high, here))))
    ]

-- ---- the whole list

-- there are as many values as the count says
pub values-length : (count last w : ℕ) (low high : List Bool) → AreParts count last w low high → length (values_of w low high) ≡ count
values-length count last w low high p = length-joined w 0 (places high) low ∙ length-places_from 0 high ∙ p.ones_are

-- the spelling of the values is that of the bits
pub ef_text-values : (count last w : ℕ) (low high : List Bool) → AreValues count last w low high →
    ef_text (values_of w low high) ≡ number last ++ run low ++ run high
unfolding ef_text
ef_text-values count last w low high v =
    let vs = values_of w low high in
    let n = values-length count last w low high v.parts in
    let wide : low_width (length vs) (last_of 0 vs) ≡ w = ap (λ (k : ℕ). low_width k (last_of 0 vs)) n ∙ ap (λ (u : ℕ). low_width count u) v.last_is
    ∙ sym v.parts.wide in
    let size : length low ≡ length (places high) * w = v.parts.low_len
    ∙ ap (λ (k : ℕ). k * w) (sym v.parts.ones_are ∙ sym (length-places_from 0 high)) in
    let lows : bits_of_each w vs ≡ low = bits_of_each-joined w 0 (places high) low size in
    let tall : high_len (length vs) last w ≡ length high = ap (λ (k : ℕ). high_len k last w) n ∙ sym v.parts.high_len_is in
    let highs : marks 0 (high_len (length vs) last w) (high_places w 0 vs) ≡ high =
    ap (λ (ps : List ℕ). marks 0 (high_len (length vs) last w) ps) (high_places-joined w 0 0 high low (omega arith))
    ∙ ap (λ (k : ℕ). marks 0 k (places high)) tall ∙ marks-places_from 0 high in
    ap (λ (u : ℕ). text_at u (low_width (length vs) (last_of 0 vs)) vs) v.last_is
    ∙ ap (λ (k : ℕ). text_at last k vs) wide
    ∙ ap (λ (bs : List Bool). number last ++ run bs ++ run (marks 0 (high_len (length vs) last w) (high_places w 0 vs))) lows
    ∙ ap (λ (bs : List Bool). number last ++ run low ++ run bs) highs

-- the bits of a list that rises are those of its values
pub list-values : (vs : List ℕ) → IsRising vs → let last = last_of 0 vs in let w = low_width (length vs) last in
    let high = marks 0 (high_len (length vs) last w) (high_places w 0 vs) in
    AreParts (length vs) last w (bits_of_each w vs) high × (values_of w (bits_of_each w vs) high ≡ vs)
list-values vs r =
    let last = last_of 0 vs in
    let w = low_width (length vs) last in
    let n = high_len (length vs) last w in
    let found : places (marks 0 n (high_places w 0 vs)) ≡ high_places w 0 vs = places_from-marks w 0 0 0 n vs r.rising (omega arith) (omega arith) in (
      record {
        few = r.few;
        wide = refl;
        low_len = length-bits_of_each w vs;
        high_len_is = length-marks 0 n (high_places w 0 vs);
        ones_are = sym (length-places_from 0 (marks 0 n (high_places w 0 vs))) ∙ ap length found ∙ length-high_places w 0 vs;
      },
      ap (λ (ps : List ℕ). joined w 0 ps (bits_of_each w vs)) found ∙ joined-high_places w 0 vs,
    )

-- values without a fault rise
pub values-rising : (count last w : ℕ) (low high : List Bool) → AreValues count last w low high → IsRising (values_of w low high)
values-rising count last w low high v =
    record { rising = v.rising; fits = omega (arith, v.last_is, v.fits); few = omega (arith, values-length count last w low high v.parts, v.parts.few) }
