-- What is read is what is spelled, and what is spelled is read again, whatever follows.
use Rattle.std.proofs.Common.{◌≡◌, ℕ, ◌+◌, ◌*◌, ◌-◌, ◌/◌, ◌^◌, ◌<◌, ◌≤◌, Bool, cond, eqb, ltb}
use Rattle.std.proofs.Common.{List, ◌++◌, length}
use Rattle.std.proofs.Common.{drop, Result, Ok, Err, refl, sym, ap, ◌∙◌, subst, append_assoc, inl, inr, arith}
use Rattle.std.specs.Prelude.{not, ◌&&◌, ◌⊎◌}
use Rattle.std.proofs.lemmas.Bool.{cases_lt, cases_eq, eqb-true}
use Rattle.std.proofs.lemmas.List.{drop-drop, drop_at, length-append, nil_from_length}
use Rattle.bit_vector.specs.Bits.{bits_of, bits_of_each, words_number, words_for, packed, ones}
use Rattle.bit_vector.proofs.CallerLemmas.{length-bits_of}
use Rattle.bit_vector.proofs.CallerLemmas.{length-bits_of_each}
use Rattle.bit_vector.proofs.CallerLemmas.{length-packed}
use Rattle.elias_fano.specs.declared.fault.FormFault.{FormFault}
use Rattle.elias_fano.specs.declared.fault.ReadErr.{ReadErr}
use Rattle.elias_fano.specs.declared.fault.ReadErr.TheVariants as errors
use Rattle.elias_fano.specs.Spelling.{number, run, low_width, last_of, rises, high_places, marks, high_len, ef_text, IsRising}
use Rattle.elias_fano.specs.Values.{values_of, AreParts, AreValues}
use Rattle.elias_fano.specs.Reading.{◌>>=◌, Fails, fault, number_at, words_in, run_at, checked, parts_at, list_at, IsSpelled}
use Rattle.elias_fano.proofs.ValueLemmas.{last_of-nil}
use Rattle.std.proofs.lemmas.Nat.{mul-le}
use Rattle.elias_fano.proofs.WidthLemmas.{low_width-le, high-few}
use Rattle.elias_fano.proofs.BuildLemmas.{last_of-none}
use Rattle.elias_fano.proofs.TextLemmas.{length-marks, values-length, values-rising, ef_text-values, list-values}
use Rattle.elias_fano.proofs.FormLemmas.{IsBytes, checked-ok, parts_at-ok}
use Rattle.elias_fano.proofs.FormLemmas.{list_at-parts}
use Rattle.elias_fano.proofs.ReadSteps.{bind_ok, guard_ok, guard_last, done, ok_is, Takes-then, number_takes, number_again}
use Rattle.elias_fano.proofs.ReadSteps.{length-numbers, run_takes, run_again}

-- what a whole reading gives
pub record IsTaken (bytes : List ℕ) (count : ℕ) (vs rest : List ℕ) : Type 0 where
  pub rising : IsRising vs
  pub count_is : length vs ≡ count
  pub parts : bytes ≡ ef_text vs ++ rest

-- bits that are read without a fault are the spelling of a list that rises
parts_take : (at count last : ℕ) (bytes vs rest : List ℕ) → IsBytes bytes → count ≤ 2 ^ 36 → last < 2 ^ 64 →
    parts_at at count last (low_width count last) bytes ≡ Ok (vs, rest) →
    IsRising vs × (length vs ≡ count) × (number last ++ bytes ≡ ef_text vs ++ rest)
unfolding parts_at checked
parts_take at count last bytes vs rest fits few small e =
    let w = low_width count last in
    let high_at = at + 8 + 8 * words_for (count * w) in
    let a = bind_ok (run_at (at + 8) (count * w) bytes) (λ low. run_at high_at (high_len count last w) low.1 >>= λ high.
    checked at high_at count last w low.0 high.0 >>= λ values. Ok (values, high.1)) (vs, rest) e in
    let low = a.0.0 in
    let b = bind_ok (run_at high_at (high_len count last w) a.0.1) (λ high. checked at high_at count last w low high.0 >>= λ values. Ok (values, high.1))
    (vs, rest) a.2 in
    let high = b.0.0 in
    let c = bind_ok (checked at high_at count last w low high) (λ values. Ok (values, b.0.1)) (vs, rest) b.2 in
    let got = values_of w low high in
    let g = guard_ok (not (eqb (ones high) count)) (fault high_at 5)
    (cond (not (rises 0 got)) (Err (fault (at + 8) 4)) (cond (eqb (last_of 0 got) last) (Ok got) (Err (fault at 6)))) c.0 c.1 in
    let h = guard_ok (not (rises 0 got)) (fault (at + 8) 4) (cond (eqb (last_of 0 got) last) (Ok got) (Err (fault at 6))) c.0 g.1 in
    let k = guard_last (eqb (last_of 0 got) last) (fault at 6) got c.0 h.1 in
    let t0 = run_takes (at + 8) (count * w) bytes low a.0.1 fits a.1 in
    let t1 = run_takes high_at (high_len count last w) a.0.1 high b.0.1 t0.0.rest_fits b.1 in
    let shape : AreParts count last w low high = record {
      few = few;
      wide = refl;
      low_len = t0.1;
      high_len_is = t1.1;
      ones_are = eqb-true _ _ (Rattle.std.proofs.lemmas.Bool.not-false _ g.0);
    } in
    let whole : AreValues count last w low high = record {
      parts = shape;
      fits = small;
      rising = Rattle.std.proofs.lemmas.Bool.not-false _ h.0;
      last_is = eqb-true _ _ k.0;
    } in
    let both = Takes-then bytes (run low) a.0.1 (run high) b.0.1 t0.0 t1.0 in
    let text : number last ++ bytes ≡ ef_text got ++ b.0.1 =
    ap (λ (t : List ℕ). number last ++ t) both.parts ∙ sym (append_assoc (number last) (run low ++ run high) b.0.1)
    ∙ ap (λ (t : List ℕ). t ++ b.0.1) (sym (append_assoc (number last) (run low) (run high)) ∙ sym (ef_text-values count last w low high whole)) in
    let made : IsRising got × (length got ≡ count) × (number last ++ bytes ≡ ef_text got ++ b.0.1) =
    (values-rising count last w low high whole, values-length count last w low high shape, text) in
    let both-are = ok_is (c.0, b.0.1) (vs, rest) c.2 in
    subst (λ (p : List ℕ × List ℕ). IsRising p.0 × (length p.0 ≡ count) × (number last ++ bytes ≡ ef_text p.0 ++ p.1)) both-are
    (subst (λ (xs : List ℕ). IsRising xs × (length xs ≡ count) × (number last ++ bytes ≡ ef_text xs ++ b.0.1)) k.1 made)

-- a list that is read stood there as its spelling
pub list_takes : (at count : ℕ) (bytes vs rest : List ℕ) → IsBytes bytes → count ≤ 2 ^ 36 → list_at at count bytes ≡ Ok (vs, rest) →
    IsTaken bytes count vs rest
unfolding list_at
list_takes at count bytes vs rest fits few e =
    let a = bind_ok (number_at at bytes)
    (λ last. cond (eqb count 0 && not (eqb last.0 0)) (Err (fault at 6)) (parts_at at count last.0 (low_width count last.0) last.1)) (vs, rest) e in
    let g = guard_ok (eqb count 0 && not (eqb a.0.0 0)) (fault at 6) (parts_at at count a.0.0 (low_width count a.0.0) a.0.1) (vs, rest) a.2 in
    let t = number_takes at bytes a.0.0 a.0.1 fits a.1 in
    let p = parts_take at count a.0.0 a.0.1 vs rest t.0.rest_fits few t.1 g.1 in
    record { rising = p.0; count_is = p.1; parts = t.0.parts ∙ p.2 }

-- the spelling of a list is read as that list
pub list_again : (at : ℕ) (vs rest : List ℕ) → IsRising vs → list_at at (length vs) (ef_text vs ++ rest) ≡ Ok (vs, rest)
unfolding ef_text
list_again at vs rest r =
    let count = length vs in
    let last = last_of 0 vs in
    let w = low_width count last in
    let low = bits_of_each w vs in
    let high = marks 0 (high_len count last w) (high_places w 0 vs) in
    let v = list-values vs r in
    let after : List ℕ = run low ++ (run high ++ rest) in
    let text : ef_text vs ++ rest ≡ number last ++ after =
    append_assoc (number last ++ run low) (run high) rest ∙ append_assoc (number last) (run low) (run high ++ rest) in
    let first = number_again at last after r.fits in
    let either : ((count ≡ 0) × (last ≡ 0)) ⊎ (count ≡ 0 → ⊥) = elim (cases_eq count 0) [
      | inl none ↦ inl (none, ap (λ (xs : List ℕ). last_of 0 xs) (nil_from_length vs none) ∙ last_of-nil 0)
      | inr some ↦ inr some
    ] in
    let lows : run_at (at + 8) (count * w) after ≡ Ok (low, run high ++ rest) = ap (λ (k : ℕ). run_at (at + 8) k after) (sym v.0.low_len)
    ∙ run_again (at + 8) low (run high ++ rest) in
    let highs : run_at (at + 8 + 8 * words_for (count * w)) (high_len count last w) (run high ++ rest) ≡ Ok (high, rest) =
    ap (λ (k : ℕ). run_at (at + 8 + 8 * words_for (count * w)) k (run high ++ rest)) (sym v.0.high_len_is)
    ∙ run_again (at + 8 + 8 * words_for (count * w)) high rest in
    let checks : checked at (at + 8 + 8 * words_for (count * w)) count last w low high ≡ Ok vs =
    checked-ok at (at + 8 + 8 * words_for (count * w)) count last w low high v.0.ones_are (ap (λ (xs : List ℕ). rises 0 xs) v.1
    ∙ r.rising) (ap (λ (xs : List ℕ). last_of 0 xs) v.1) ∙ ap (λ (xs : List ℕ). Ok xs) v.1 in
    ap (λ (t : List ℕ). list_at at count t) text
    ∙ list_at-parts at count last (number last ++ after) after first either
    ∙ parts_at-ok at count last w after low high (run high ++ rest) rest vs lows highs checks

-- what a reading gives that cannot fail
pub fails_not : {X Y : Type 0} (e : ReadErr) (read : Result X FormFault) (x : X) (y : Y) → read ≡ Ok x → Fails e read → Fails e (done y)
fails_not errors.NoMemory read x y r h = tt
fails_not (errors.Form f) read x y r h = absurd cc

-- a run has the length that was asked for
pub run_len : (at len : ℕ) (bytes : List ℕ) (bits : List Bool) (rest : List ℕ) → run_at at len bytes ≡ Ok (bits, rest) → length bits ≡ len
unfolding run_at
run_len at len bytes bits rest e =
    let count = words_for len in
    let n = words_number (words_in count bytes) in
    let g = guard_ok (ltb (length bytes) (8 * count)) (fault at 1)
    (cond (ltb n (2 ^ len)) (Ok (bits_of len n, drop (8 * count) bytes)) (Err (fault (at + 8 * count - 8) 3))) (bits, rest) e in
    let h = guard_last (ltb n (2 ^ len)) (fault (at + 8 * count - 8) 3) (bits_of len n, drop (8 * count) bytes) (bits, rest) g.1 in
    sym (ap (λ (p : List Bool × List ℕ). length p.0) h.1) ∙ length-bits_of len n

-- the rest of the bytes stands behind what was taken
rest_place : (bytes text rest : List ℕ) (at : ℕ) → at ≤ length bytes → drop at bytes ≡ text ++ rest →
    (length bytes ≡ at + length text + length rest) × (rest ≡ drop (at + length text) bytes)
rest_place bytes text rest at le e =
    let n = ap length e in (
      omega (arith, n, Rattle.std.proofs.lemmas.List.length-drop at bytes, length-append text rest),
      sym (sym (drop-drop (length text) at bytes) ∙ ap (λ (t : List ℕ). drop (length text) t) e ∙ drop_at text rest (length text) refl),
    )

-- what is taken at a place is spelled there
pub spelled_at : (bytes : List ℕ) (at count : ℕ) (vs rest : List ℕ) → at ≤ length bytes → IsTaken (drop at bytes) count vs rest →
    (length rest ≤ length bytes) × IsSpelled bytes at count vs (length bytes - length rest) × (rest ≡ drop (length bytes - length rest) bytes)
spelled_at bytes at count vs rest le t =
    let p = rest_place bytes (ef_text vs) rest at le t.parts in
    let next : length bytes - length rest ≡ at + length (ef_text vs) = omega (arith, p.0) in
    let behind : rest ≡ drop (length bytes - length rest) bytes = p.1 ∙ ap (λ (k : ℕ). drop k bytes) (sym next) in (
      omega (arith, p.0),
      record { rising = t.rising; count_is = t.count_is; next_is = next; text = t.parts ∙ ap (λ (r : List ℕ). ef_text vs ++ r) behind },
      behind,
    )

-- what is spelled at a place is read there
pub spelled_again : (bytes : List ℕ) (at count : ℕ) (vs : List ℕ) (next : ℕ) → IsSpelled bytes at count vs next →
    list_at at count (drop at bytes) ≡ Ok (vs, drop next bytes)
spelled_again bytes at count vs next s =
    ap (λ (k : ℕ). list_at at k (drop at bytes)) (sym s.count_is) ∙ ap (λ (t : List ℕ). list_at at (length vs) t) s.text
    ∙ list_again at vs (drop next bytes) s.rising

-- what is spelled at a place is what is read there
pub spelled_same : (bytes : List ℕ) (at count : ℕ) (vs : List ℕ) (next : ℕ) (us rest : List ℕ) → IsSpelled bytes at count vs next →
    list_at at count (drop at bytes) ≡ Ok (us, rest) → at ≤ length bytes →
    done {A = List ℕ × ℕ} (vs, next) ≡ Ok (us, length bytes - length rest)
spelled_same bytes at count vs next us rest s e le =
    let both = ok_is {A = List ℕ × List ℕ} (vs, drop next bytes) (us, rest) (sym (spelled_again bytes at count vs next s) ∙ e) in
    let same : vs ≡ us = ap (λ (p : List ℕ × List ℕ). p.0) both in
    let after : drop next bytes ≡ rest = ap (λ (p : List ℕ × List ℕ). p.1) both in
    let n = rest_place bytes (ef_text vs) (drop next bytes) at le s.text in
    let place : next ≡ length bytes - length rest = omega (arith, n.0, s.next_is, ap length after) in
    ap (λ (x : List ℕ). done {A = List ℕ × ℕ} (x, next)) same ∙ ap (λ (k : ℕ). done {A = List ℕ × ℕ} (us, k)) place

-- only one list of a count is spelled at a place
pub spelled_once : (bytes : List ℕ) (at count : ℕ) (vs us : List ℕ) (m n : ℕ) → IsSpelled bytes at count vs m → IsSpelled bytes at count us n →
    (vs ≡ us) × (m ≡ n)
spelled_once bytes at count vs us m n s t =
    let both = ok_is {A = List ℕ × List ℕ} (vs, drop m bytes) (us, drop n bytes) (sym (spelled_again bytes at count vs m s)
    ∙ spelled_again bytes at count us n t) in
    let same : vs ≡ us = ap (λ (p : List ℕ × List ℕ). p.0) both in
    (same, s.next_is ∙ ap (λ (xs : List ℕ). at + length (ef_text xs)) same ∙ sym t.next_is)

-- how long the spelling of a run is
pub length-run : (bits : List Bool) → length (run bits) ≡ 8 * words_for (length bits)
unfolding run
length-run bits = omega (arith, length-numbers (packed bits), length-packed bits)

-- at most 9 bytes a value and 40 more
pub length-ef_text : (vs : List ℕ) → IsRising vs → length (ef_text vs) ≤ 9 * length vs + 40
unfolding ef_text
length-ef_text vs r =
    let count = length vs in
    let last = last_of 0 vs in
    let w = low_width count last in
    let low = bits_of_each w vs in
    let high = marks 0 (high_len count last w) (high_places w 0 vs) in
    let few : last / 2 ^ w ≤ 2 * count = elim (cases_lt 0 count) [
      | inl some ↦ high-few count last some r.fits
      | inr none ↦
          let zero_last : last ≡ 0 = last_of-none vs (omega arith) in
          omega (arith, ap (λ (x : ℕ). x / 2 ^ w) zero_last, Rattle.std.proofs.Math.Nat.zero-div (2 ^ w))
    ] in
    let lows : length low ≤ count * 63 = omega (arith, length-bits_of_each w vs, mul-le count w count 63 (omega arith) (low_width-le count last)) in
    let highs = length-marks 0 (high_len count last w) (high_places w 0 vs) in
    let all : length (ef_text vs) ≡ 8 + length (run low) + length (run high) =
    omega (arith, length-append (number last ++ run low) (run high), length-append (number last) (run low)) in
    omega (arith, all, length-run low, length-run high, lows, highs, few)

-- a list that stands between others is spelled there
pub spelled_among : (before vs after : List ℕ) → IsRising vs →
    IsSpelled (before ++ ef_text vs ++ after) (length before) (length vs) vs (length before + length (ef_text vs))
spelled_among before vs after r =
    let whole : before ++ ef_text vs ++ after ≡ before ++ (ef_text vs ++ after) = append_assoc before (ef_text vs) after in
    let behind : drop (length before) (before ++ ef_text vs ++ after) ≡ ef_text vs ++ after =
    ap (λ (t : List ℕ). drop (length before) t) whole ∙ drop_at before (ef_text vs ++ after) (length before) refl in
    let rest : drop (length before + length (ef_text vs)) (before ++ ef_text vs ++ after) ≡ after =
    drop_at (before ++ ef_text vs) after (length before + length (ef_text vs)) (length-append before (ef_text vs)) in
    record {
      rising = r;
      count_is = refl;
      next_is = refl;
      text = behind ∙ ap (λ (t : List ℕ). ef_text vs ++ t) (sym rest);
    }
