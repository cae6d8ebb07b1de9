-- Packed numbers, written and read.
use Rattle.std.proofs.Common.{◌≡◌, ℕ, ◌+◌, ◌*◌, ◌-◌, ◌/◌, ◌%◌, ◌^◌, ◌<◌, ◌≤◌, max, Bool, true, false, eqb, ltb}
use Rattle.std.proofs.Common.{List, ◌++◌, length, get_or, take, drop, Ok}
use Rattle.std.proofs.Common.{Err, refl, sym, ap, ◌∙◌, subst, inl, inr, arith}
use Rattle.std.proofs.lemmas.Nat.{mul-le}
use Rattle.std.proofs.lemmas.Bool.{cases_lt, cases_eq, lt-ltb, le-ltb, eq-eqb, ne_eqb}
use Rattle.std.proofs.lemmas.List.{take_more, take_rest}
use Rattle.std.specs.List.{flat_map}
use Rattle.std.specs.Ordering.{nat_cmp, ord_max}
use Rattle.bit_vector.specs.Bits.{bits_of, words_number, words_for, packed, IsPacked, bits_of_each}
use Rattle.bit_vector.proofs.CallerLemmas.{length-bits_of}
use Rattle.bit_vector.proofs.CallerLemmas.{bits_read, packed-bits_of}
use Rattle.elias_fano.specs.declared.fault.ReadErr.{ReadErr}
use Rattle.elias_fano.specs.declared.fault.ReadErr.TheVariants as errors
use Rattle.elias_fano.specs.Spelling.{number, run}
use Rattle.elias_fano.specs.Reading.{Fails, fault, number_at, words_in}
use Rattle.bit_vector.proofs.CallerLemmas.{fields_packed}
use Rattle.elias_fano.proofs.CallerLemmas.{IsBytes, packed_if_clear}
use Rattle.pilot_codecs.specs.Spelling.{digits_of, greatest, compact_text}
use Rattle.pilot_codecs.specs.Reading.{fields, fields_in, packed_at, compact_at}
use Rattle.pilot_codecs.specs.Parts.{values_in, IsCompact}
use Rattle.pilot_codecs.proofs.FieldLemmas.{lt-digits_of, greatest-push, length-fields, get_or-fields, fields-bits_of_each, bits_of_each-fields}

-- what `max` of two numbers gives
pub ord_max_is : (a b : ℕ) → ord_max nat_cmp a b ≡ max a b
ord_max_is a b =
    elim (cases_lt b a) [
      | inl lt ↦ rw (lt-ltb b a lt) (omega (arith, lt))
      | inr le ↦
          elim (cases_eq b a) [
            | inl same ↦ rw (le-ltb b a le, eq-eqb b a same) (omega (arith, le))
            | inr other ↦ rw (le-ltb b a le, ne_eqb b a other) (omega (arith, le))
          ]
    ]

-- one value more is compared with the greatest so far
pub greatest-more : (vs : List ℕ) (i : ℕ) → i < length vs → greatest (take (i + 1) vs) ≡ max (greatest (take i vs)) (get_or vs i 0)
greatest-more vs i lt = ap greatest (take_more vs i 0 lt) ∙ greatest-push (take i vs) (get_or vs i 0)

-- a field ends before all of them end
pub place_fits : (i w count : ℕ) → i < count → i * w + w ≤ count * w
place_fits i w count lt = omega (arith, mul-le (i + 1) w count w (omega arith) (omega arith))

-- the bits from a field's place on are that field
pub field_at : (n count w i : ℕ) → i < count → n / 2 ^ (i * w) % 2 ^ w ≡ get_or (fields count w (bits_of (count * w) n)) i 0
field_at n count w i lt = bits_read n (count * w) (i * w) w (place_fits i w count lt) ∙ sym (get_or-fields count w (bits_of (count * w) n) i lt)

-- the words that values are packed into hold these values, and no more words than they need
pub compact_made : (vs : List ℕ) (w : ℕ) (ws : List ℕ) → length vs ≤ 2 ^ 30 → greatest vs < 2 ^ 64 → w ≡ digits_of (greatest vs) →
    ws ≡ packed (bits_of_each w vs) → IsCompact (length vs) w ws × (values_in (length vs) w ws ≡ vs)
compact_made vs w ws few small wide e =
    let fits : greatest vs < 2 ^ w = subst (λ (j : ℕ). greatest vs < 2 ^ j) (sym wide) (lt-digits_of (greatest vs) small) in
    let p = fields_packed w (length vs * w) vs ws e refl in
    let same : values_in (length vs) w ws ≡ vs = ap (λ (bs : List Bool). fields (length vs) w bs) p.1 ∙ fields-bits_of_each w vs fits in
    (record { few = few; wide = wide ∙ ap (λ (xs : List ℕ). digits_of (greatest xs)) (sym same); packed_are = p.0 }, same)

-- the spelling of packed values is their width and words
pub compact_text-values_in : (count w : ℕ) (ws : List ℕ) → IsCompact count w ws → compact_text (values_in count w ws) ≡ number w ++ flat_map number ws
unfolding compact_text run
compact_text-values_in count w ws p =
    let bits = bits_of (count * w) (words_number ws) in
    ap (λ (j : ℕ). number j ++ flat_map number (packed (bits_of_each j (fields count w bits)))) (sym p.wide)
    ∙ ap (λ (bs : List Bool). number w ++ flat_map number (packed bs)) (bits_of_each-fields count w bits (length-bits_of (count * w) (words_number ws)))
    ∙ ap (λ (xs : List ℕ). number w ++ flat_map number xs) (packed-bits_of ws (count * w) p.packed_are)

-- there are as many values as the count says
pub length-values_in : (count w : ℕ) (ws : List ℕ) → length (values_in count w ws) ≡ count
length-values_in count w ws = length-fields count w (bits_of (count * w) (words_number ws))

-- a value by its place among the bits
pub value_at : (count w i at : ℕ) (ws : List ℕ) → i < count → at ≡ i * w → words_number ws / 2 ^ at % 2 ^ w ≡ get_or (values_in count w ws) i 0
value_at count w i at ws lt e = ap (λ (j : ℕ). words_number ws / 2 ^ j % 2 ^ w) e ∙ field_at (words_number ws) count w i lt

-- its bits are among those of the words
pub value_within : (count w i at : ℕ) (ws : List ℕ) → IsCompact count w ws → i < count → at ≡ i * w → at + w ≤ 64 * length ws
value_within count w i at ws p lt e = omega (arith, e, place_fits i w count lt, p.packed_are.count)

-- ---- reading after the width

-- the words that a count of a width takes
abbrev words_at : ℕ → ℕ → List ℕ → List ℕ
words_at count w bytes = words_in (words_for (count * w)) bytes

-- the words are short where the bytes end before them
pub packed_at-short : (at count w size : ℕ) (bytes : List ℕ) → size ≡ words_for (count * w) → length bytes < 8 * size →
    packed_at at count w bytes ≡ Err (fault (at + 8) 1)
unfolding packed_at
packed_at-short at count w size bytes s lt = rw (lt-ltb (length bytes) (8 * words_for (count * w)) (omega (arith, s))) refl

-- then a width that isn't that of the greatest value is the fault
pub packed_at-width : (at count w size : ℕ) (bytes words : List ℕ) → size ≡ words_for (count * w) → 8 * size ≤ length bytes →
    words ≡ words_in size bytes →
    (digits_of (greatest (fields count w (bits_of (count * w) (words_number words)))) ≡ w → ⊥) → packed_at at count w bytes ≡ Err (fault at 2)
unfolding packed_at
packed_at-width at count w size bytes words s le e other =
    let same : words ≡ words_at count w bytes = e ∙ ap (λ (k : ℕ). words_in k bytes) s in
    let differs : eqb (digits_of (greatest (fields_in count w bytes))) w ≡ false =
    ne_eqb _ _ (λ d. other (ap (λ (ws : List ℕ). digits_of (greatest (fields count w (bits_of (count * w) (words_number ws))))) same ∙ d)) in
    rw (le-ltb (length bytes) (8 * words_for (count * w)) (omega (arith, s)), differs) refl

-- then a set unused bit
pub packed_at-padding : (at count w size : ℕ) (bytes words : List ℕ) → size ≡ words_for (count * w) → 8 * size ≤ length bytes →
    words ≡ words_in size bytes →
    IsBytes bytes →
    digits_of (greatest (fields count w (bits_of (count * w) (words_number words)))) ≡ w → (IsPacked words (count * w) → ⊥) →
    packed_at at count w bytes ≡ Err (fault (at + 8 + 8 * size - 8) 3)
unfolding packed_at
packed_at-padding at count w size bytes words s le e fits d other =
    let len = count * w in
    let same : words ≡ words_at count w bytes = e ∙ ap (λ (k : ℕ). words_in k bytes) s in
    let n = words_number (words_at count w bytes) in
    let equal : eqb (digits_of (greatest (fields_in count w bytes))) w ≡ true =
    eq-eqb _ _ (ap (λ (ws : List ℕ). digits_of (greatest (fields count w (bits_of len (words_number ws))))) (sym same) ∙ d) in
    let past : ltb n (2 ^ len) ≡ false = elim (cases_lt n (2 ^ len)) [
      | inl lt ↦ absurd (other (subst (λ (ws : List ℕ). IsPacked ws len) (sym same) (packed_if_clear len bytes fits lt)))
      | inr ge ↦ le-ltb n (2 ^ len) ge
    ] in
    rw (le-ltb (length bytes) (8 * words_for len) (omega (arith, s)), equal, past, s) refl

-- without a fault the fields are the values
pub packed_at-ok : (at count w size : ℕ) (bytes words : List ℕ) (bits : List Bool) → size ≡ words_for (count * w) → 8 * size ≤ length bytes →
    words ≡ words_in size bytes →
    digits_of (greatest (fields count w (bits_of (count * w) (words_number words)))) ≡ w → IsPacked words (count * w) →
    bits ≡ bits_of (count * w) (words_number words) →
    packed_at at count w bytes ≡ Ok (fields count w bits, take (length bytes - 8 * size) (drop (8 * size) bytes))
unfolding packed_at
packed_at-ok at count w size bytes words bits s le e d p b =
    let len = count * w in
    let same : words ≡ words_at count w bytes = e ∙ ap (λ (k : ℕ). words_in k bytes) s in
    let equal : eqb (digits_of (greatest (fields_in count w bytes))) w ≡ true =
    eq-eqb _ _ (ap (λ (ws : List ℕ). digits_of (greatest (fields count w (bits_of len (words_number ws))))) (sym same) ∙ d) in
    let clear : ltb (words_number (words_at count w bytes)) (2 ^ len) ≡ true =
    lt-ltb _ _ (subst (λ (ws : List ℕ). words_number ws < 2 ^ len) same p.clear) in
    let value : fields_in count w bytes ≡ fields count w bits = ap (λ (ws : List ℕ). fields count w (bits_of len (words_number ws))) (sym same)
    ∙ ap (λ (bs : List Bool). fields count w bs) (sym b) in
    rw (
      le-ltb (length bytes) (8 * words_for len) (omega (arith, s)),
      equal,
      clear,
      take_rest bytes (8 * size),
      s,
    ) (ap (λ (xs : List ℕ). Ok (xs, drop (8 * words_for len) bytes)) value)

-- ---- reading from the width on

-- a fault of the width's field is that of the list
pub compact_at-number : (e : ReadErr) (at count : ℕ) (bytes : List ℕ) → Fails e (number_at at bytes) → Fails e (compact_at at count bytes)
unfolding compact_at
compact_at-number errors.NoMemory at count bytes h = tt
compact_at-number (errors.Form f) at count bytes h = rw h refl

-- no width is 0 or above 64
pub compact_at-width : (at count w : ℕ) (bytes rest : List ℕ) → number_at at bytes ≡ Ok (w, rest) → ((0 < w) × (w ≤ 64) → ⊥) →
    compact_at at count bytes ≡ Err (fault at 2)
unfolding compact_at
compact_at-width at count w bytes rest n other =
    elim (cases_eq w 0) [
      | inl none ↦ rw (n, eq-eqb w 0 none) refl
      | inr some ↦
          elim (cases_lt 64 w) [
            | inl wide ↦ rw (n, ne_eqb w 0 some, lt-ltb 64 w wide) refl
            | inr le ↦ absurd (other (omega (arith, some), le))
          ]
    ]

-- behind the width the words follow
pub compact_at-packed : (at count w : ℕ) (bytes rest : List ℕ) → number_at at bytes ≡ Ok (w, rest) → (w ≡ 0 → ⊥) → w ≤ 64 →
    compact_at at count bytes ≡ packed_at at count w rest
unfolding compact_at
compact_at-packed at count w bytes rest n some le = rw (n, ne_eqb w 0 some, le-ltb 64 w le) refl
