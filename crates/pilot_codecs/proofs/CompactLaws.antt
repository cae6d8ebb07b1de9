-- Packed numbers that are read are spelled so, and what is spelled is read again, whatever follows.
use Rattle.std.proofs.Common.{◌≡◌, ℕ, zero, suc, ◌+◌, ◌*◌, ◌-◌, ◌^◌, ◌<◌, ◌≤◌, Bool, cond, eqb, ltb, List, ◌++◌, length}
use Rattle.std.proofs.Common.{take, drop, Ok, Err, sym, ap, ◌∙◌}
use Rattle.std.proofs.Common.{subst, append_assoc, arith}
use Rattle.std.specs.Prelude.{not, ◌||◌}
use Rattle.std.specs.List.{flat_map}
use Rattle.std.proofs.Math.Nat.{pow-le-pow_right}
use Rattle.std.proofs.lemmas.Bool.{eqb-true, ltb-true, ltb-false, not-false, or_parts}
use Rattle.std.proofs.lemmas.Nat.{pow_pos}
use Rattle.std.proofs.lemmas.List.{take_rest, drop_at, length-append}
use Rattle.bit_vector.specs.Bits.{bits_of, number_of, words_number, words_for, packed, IsPacked, bits_of_each}
use Rattle.bit_vector.proofs.CallerLemmas.{length-bits_of, bits_of-number_of, number_of-lt}
use Rattle.bit_vector.proofs.CallerLemmas.{packed-bits_of}
use Rattle.bit_vector.proofs.CallerLemmas.{length-packed, AreWords-packed, words_number-packed}
use Rattle.elias_fano.specs.Spelling.{number, run}
use Rattle.elias_fano.specs.Reading.{fault, number_at, words_in}
use Rattle.bit_vector.proofs.CallerLemmas.{length-bits_of_each}
use Rattle.elias_fano.proofs.CallerLemmas.{low-lt}
use Rattle.elias_fano.proofs.CallerLemmas.{IsBytes, IsBytes-drop, packed_if_clear}
use Rattle.elias_fano.proofs.CallerLemmas.{bind_ok, guard_ok, guard_last, Takes, number_takes, number_again, words_written, words_again, length-numbers}
use Rattle.pilot_codecs.specs.Spelling.{digits_of, greatest, compact_text}
use Rattle.pilot_codecs.specs.Reading.{fields, packed_at, compact_at}
use Rattle.pilot_codecs.proofs.FieldLemmas.{lt-digits_of, digits_of-le, digits_of-pos, length-fields, fields-bits_of_each, bits_of_each-fields}
use Rattle.pilot_codecs.proofs.CompactLemmas.{packed_at-ok, compact_at-packed}

-- no field reaches the power of its width
pub greatest-fields : (n w : ℕ) (bits : List Bool) → greatest (fields n w bits) < 2 ^ w
unfolding fields greatest
greatest-fields zero w bits = pow_pos w
greatest-fields (suc n) w bits = omega (arith, low-lt w bits, greatest-fields n w (drop w bits))

-- what a reading of packed numbers took
pub record IsCompactText (bytes : List ℕ) (count : ℕ) (vs rest : List ℕ) : Type 0 where
  pub taken : Takes bytes (compact_text vs) rest
  pub count_is : length vs ≡ count
  pub small : greatest vs < 2 ^ 64

-- values that are read behind a width stood there as their spelling
packed_takes : (at count w : ℕ) (bytes vs rest : List ℕ) → IsBytes bytes → w ≤ 64 → packed_at at count w bytes ≡ Ok (vs, rest) →
    (number w ++ bytes ≡ compact_text vs ++ rest) × IsBytes rest × (length vs ≡ count) × (greatest vs < 2 ^ 64)
unfolding packed_at compact_text run
packed_takes at count w bytes vs rest fits narrow e =
    let len = count * w in
    let size = words_for len in
    let ws = words_in size bytes in
    let n = words_number ws in
    let bits = bits_of len n in
    let got = fields count w bits in
    let last = cond (ltb n (2 ^ len)) (Ok (got, drop (8 * size) bytes)) (Err (fault (at + 8 + 8 * size - 8) 3)) in
    let g = guard_ok (ltb (length bytes) (8 * size)) (fault (at + 8) 1) (cond (not (eqb (digits_of (greatest got)) w)) (Err (fault at 2)) last) (vs, rest) e in
    let long : 8 * size ≤ length bytes = ltb-false _ _ g.0 in
    let h = guard_ok (not (eqb (digits_of (greatest got)) w)) (fault at 2) last (vs, rest) g.1 in
    let width : digits_of (greatest got) ≡ w = eqb-true _ _ (not-false _ h.0) in
    let k = guard_last (ltb n (2 ^ len)) (fault (at + 8 + 8 * size - 8) 3) (got, drop (8 * size) bytes) (vs, rest) h.1 in
    let packing = packed_if_clear len bytes fits (ltb-true _ _ k.0) in
    let written : flat_map number (packed bits) ++ drop (8 * size) bytes ≡ bytes =
    ap (λ (xs : List ℕ). flat_map number xs ++ drop (8 * size) bytes) (packed-bits_of ws len packing) ∙ words_written size bytes fits long in
    let text : number (digits_of (greatest got)) ++ flat_map number (packed (bits_of_each (digits_of (greatest got)) got))
    ≡ number w ++ flat_map number (packed bits) =
    ap (λ (j : ℕ). number j ++ flat_map number (packed (bits_of_each j got))) width
    ∙ ap (λ (bs : List Bool). number w ++ flat_map number (packed bs)) (bits_of_each-fields count w bits (length-bits_of len n)) in
    let whole : number w ++ bytes ≡ (number (digits_of (greatest got)) ++ flat_map number (packed (bits_of_each (digits_of (greatest got)) got)))
    ++ drop (8 * size) bytes =
    sym (ap (λ (t : List ℕ). t ++ drop (8 * size) bytes) text ∙ append_assoc (number w) (flat_map number (packed bits)) (drop (8 * size) bytes)
    ∙ ap (λ (t : List ℕ). number w ++ t) written) in
    let more : 2 ^ w ≤ 2 ^ 64 = pow-le-pow_right (omega arith) narrow in
    subst (λ (p : List ℕ × List ℕ).
    (number w ++ bytes ≡ (number (digits_of (greatest p.0)) ++ flat_map number (packed (bits_of_each (digits_of (greatest p.0)) p.0))) ++ p.1) × IsBytes p.1
    × (length p.0 ≡ count) × (greatest p.0 < 2 ^ 64)) k.1
    (whole, IsBytes-drop (8 * size) bytes fits, length-fields count w bits, omega (arith, greatest-fields count w bits, more))

-- a list that is read stood there as its spelling
pub compact_takes : (at count : ℕ) (bytes vs rest : List ℕ) → IsBytes bytes → compact_at at count bytes ≡ Ok (vs, rest) →
    IsCompactText bytes count vs rest
unfolding compact_at
compact_takes at count bytes vs rest fits e =
    let a = bind_ok (number_at at bytes) (λ width. cond (eqb width.0 0 || ltb 64 width.0) (Err (fault at 2)) (packed_at at count width.0 width.1)) (
      vs,
      rest,
    ) e in
    let g = guard_ok (eqb a.0.0 0 || ltb 64 a.0.0) (fault at 2) (packed_at at count a.0.0 a.0.1) (vs, rest) a.2 in
    let t = number_takes at bytes a.0.0 a.0.1 fits a.1 in
    let narrow : a.0.0 ≤ 64 = ltb-false _ _ (or_parts (eqb a.0.0 0) (ltb 64 a.0.0) g.0).1 in
    let p = packed_takes at count a.0.0 a.0.1 vs rest t.0.rest_fits narrow g.1 in
    record { taken = record { parts = t.0.parts ∙ p.0; rest_fits = p.1 }; count_is = p.2; small = p.3 }

-- the spelling of a list is read as that list
pub compact_again : (at : ℕ) (vs rest : List ℕ) → greatest vs < 2 ^ 64 → compact_at at (length vs) (compact_text vs ++ rest) ≡ Ok (vs, rest)
unfolding compact_text run
compact_again at vs rest small =
    let count = length vs in
    let w = digits_of (greatest vs) in
    let bits = bits_of_each w vs in
    let len : length bits ≡ count * w = length-bits_of_each w vs in
    let ws = packed bits in
    let after = flat_map number ws ++ rest in
    let n : words_number ws ≡ number_of bits = words_number-packed bits in
    let size : length ws ≡ words_for (count * w) = length-packed bits ∙ ap (λ (k : ℕ). words_for k) len in
    let room : 8 * length ws ≤ length after = omega (arith, length-numbers ws, length-append (flat_map number ws) rest) in
    let packing : IsPacked ws (count * w) =
    record {
      count = size;
      fit = AreWords-packed bits;
      clear = subst (λ (k : ℕ). words_number ws < 2 ^ k) len (subst (λ (m : ℕ). m < 2 ^ length bits) (sym n) (number_of-lt bits));
    } in
    let value : bits ≡ bits_of (count * w) (words_number ws) =
    sym (ap (λ (k : ℕ). bits_of (count * w) k) n ∙ ap (λ (k : ℕ). bits_of k (number_of bits)) (sym len) ∙ bits_of-number_of bits) in
    let same : fields count w bits ≡ vs = fields-bits_of_each w vs (lt-digits_of (greatest vs) small) in
    let width : digits_of (greatest (fields count w (bits_of (count * w) (words_number ws)))) ≡ w =
    ap (λ (bs : List Bool). digits_of (greatest (fields count w bs))) (sym value) ∙ ap (λ (xs : List ℕ). digits_of (greatest xs)) same in
    let read = packed_at-ok at count w (length ws) after ws bits size room (sym (words_again ws rest (AreWords-packed bits))) width packing value in
    let behind : take (length after - 8 * length ws) (drop (8 * length ws) after) ≡ rest = take_rest after (8 * length ws)
    ∙ drop_at (flat_map number ws) rest (8 * length ws) (length-numbers ws) in
    ap (λ (t : List ℕ). compact_at at count t) (append_assoc (number w) (flat_map number ws) rest)
    ∙ compact_at-packed at count w (number w ++ after) after (number_again at w after (omega (arith, digits_of-le (greatest vs)))) (λ e. omega (
      arith,
      e,
      digits_of-pos (greatest vs),
    )) (digits_of-le (greatest vs))
    ∙ read ∙ ap (λ (xs : List ℕ). Ok (xs, take (length after - 8 * length ws) (drop (8 * length ws) after))) same
    ∙ ap (λ (t : List ℕ). Ok (vs, t)) behind
