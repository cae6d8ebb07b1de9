use Rattle.std.proofs.Common.{◌≡◌, ℕ, ◌+◌, ◌*◌, ◌/◌, ◌^◌, ◌<◌, ◌≤◌, List, Bool, length, Ok, Err, sym, ap, ◌∙◌, subst}
use Rattle.std.proofs.Common.{inl, inr, arith}
use Rattle.bit_vector.specs.Bits.{words_for}
use Rattle.elias_fano.specs.Spelling.{high_len, low_width}
use Rattle.elias_fano.specs.Reading.{Fails, IsShort, fault, run_at, checked, parts_at}
use Rattle.std.proofs.lemmas.Result.{err_from_is_err_and}
use Rattle.elias_fano.proofs.FormLemmas.{parts_at-low, parts_at-high, parts_at-check, parts_at-ok}
use Rattle.elias_fano.proofs.ReadSteps.{ok_is}
use Rattle.elias_fano.proofs.LawLemmas.{run_len}
use Rattle.elias_fano.proofs.ShortLemmas.{not_both, run_short, parts_short, tells}
use Rattle.elias_fano.proofs.reading.parts_of.Goals as goal

pub returns-in_err-low-clause-values : goal.returns-in_err-low-clause-values
returns-in_err-low-clause-values c =
    let at = c.args.at in
    let count = c.args.count in
    let last = c.args.last in
    let bytes = c.args.bytes.now in
    let w = low_width count last in
    let wide : w ≡ c.from.result = sym (c.from.ensures ∙ c.width_of-width.ensures.width) in
    let p = err_from_is_err_and c.from_residual.result c.from_residual.ensures.1 in
    rw (p.1, p.2) (parts_at-low c.in_err-low.field-0.0 at count last w bytes
    (subst (λ (x : ℕ). Fails c.in_err-low.field-0.0 (run_at (at + 8) (count * x) bytes)) (sym wide) c.in_err-low.ensures.bits))

pub returns-in_err-high-clause-values : goal.returns-in_err-high-clause-values
returns-in_err-high-clause-values c =
    let at = c.args.at in
    let count = c.args.count in
    let last = c.args.last in
    let bytes = c.args.bytes.now in
    let w = low_width count last in
    let wide : w ≡ c.from.result = sym (c.from.ensures ∙ c.width_of-width.ensures.width) in
    let lows : run_at (at + 8) (count * w) bytes ≡ Ok (c.in_ok-low.low, c.in_ok-low.rest.now) = ap (λ (x : ℕ). run_at (at + 8) (count * x) bytes) wide
    ∙ c.in_ok-low.ensures.bits in
    let place : at + 8 + 8 * words_for (count * w) ≡ at + 8 + 8 * c.div_ceil.result = omega (arith, c.div_ceil.ensures, ap (λ (x : ℕ). count * x) wide) in
    let size : high_len count last w ≡ count + last / 2 ^ c.width_of-width.result + 1 =
    ap (λ (x : ℕ). count + last / 2 ^ x + 1) (sym c.width_of-width.ensures.width) in
    let moved = ap (λ (p : ℕ). run_at p (high_len count last w) c.in_ok-low.rest.now) place
    ∙ ap (λ (n : ℕ). run_at (at + 8 + 8 * c.div_ceil.result) n c.in_ok-low.rest.now) size in
    let p = err_from_is_err_and c.from_residual-in_err-high.result c.from_residual-in_err-high.ensures.1 in
    rw (p.1, p.2) (parts_at-high c.in_err-high.field-0.0 at count last w bytes c.in_ok-low.low c.in_ok-low.rest.now lows (rw moved c.in_err-high.ensures.bits))

pub check-requires-clause-low_len : goal.check-requires-clause-low_len
check-requires-clause-low_len c =
    run_len (c.args.at + 8) (c.args.count * c.from.result) c.args.bytes.now c.in_ok-low.low c.in_ok-low.rest.now c.in_ok-low.ensures.bits
    ∙ ap (λ (x : ℕ). c.args.count * x) c.from.ensures

pub check-requires-clause-high_len_is : goal.check-requires-clause-high_len_is
check-requires-clause-high_len_is c =
    ap length c.in_ok-high-2.ensures
    ∙ run_len (c.args.at + 8 + 8 * c.div_ceil.result) (c.args.count + c.args.last / 2 ^ c.width_of-width.result + 1) c.in_ok-low.rest.now c.in_ok-high.high
    c.in_ok-high.rest.now c.in_ok-high.ensures.bits

pub returns-in_err-list-clause-values : goal.returns-in_err-list-clause-values
returns-in_err-list-clause-values c =
    let at = c.args.at in
    let count = c.args.count in
    let last = c.args.last in
    let bytes = c.args.bytes.now in
    let w = low_width count last in
    let wide : w ≡ c.from.result = sym (c.from.ensures ∙ c.width_of-width.ensures.width) in
    let lows : run_at (at + 8) (count * w) bytes ≡ Ok (c.in_ok-low.low, c.in_ok-low.rest.now) = ap (λ (x : ℕ). run_at (at + 8) (count * x) bytes) wide
    ∙ c.in_ok-low.ensures.bits in
    let place : at + 8 + 8 * words_for (count * w) ≡ at + 8 + 8 * c.div_ceil.result = omega (arith, c.div_ceil.ensures, ap (λ (x : ℕ). count * x) wide) in
    let size : high_len count last w ≡ count + last / 2 ^ c.width_of-width.result + 1 =
    ap (λ (x : ℕ). count + last / 2 ^ x + 1) (sym c.width_of-width.ensures.width) in
    let moved = ap (λ (p : ℕ). run_at p (high_len count last w) c.in_ok-low.rest.now) place
    ∙ ap (λ (n : ℕ). run_at (at + 8 + 8 * c.div_ceil.result) n c.in_ok-low.rest.now) size in
    let highs : run_at (at + 8 + 8 * words_for (count * w)) (high_len count last w) c.in_ok-low.rest.now ≡ Ok (c.in_ok-high.high, c.in_ok-high.rest.now) =
    moved ∙ c.in_ok-high.ensures.bits in
    let same : checked at (at + 8 + 8 * words_for (count * w)) count last w c.in_ok-low.low c.in_ok-high.high
    ≡ checked at (at + 8 + 8 * c.div_ceil.result) count last c.width_of-width.result c.in_ok-low.low c.in_ok-high-2.high =
    ap (λ (p : ℕ). checked at p count last w c.in_ok-low.low c.in_ok-high.high) place
    ∙ ap (λ (x : ℕ). checked at (at + 8 + 8 * c.div_ceil.result) count last x c.in_ok-low.low c.in_ok-high.high) (sym c.width_of-width.ensures.width)
    ∙ ap (λ (bs : List Bool). checked at (at + 8 + 8 * c.div_ceil.result) count last c.width_of-width.result c.in_ok-low.low bs)
    (sym c.in_ok-high-2.ensures) in
    let p = err_from_is_err_and c.from_residual-in_err-list.result c.from_residual-in_err-list.ensures.1 in
    rw (p.1, p.2) (parts_at-check c.in_err-list.field-0.0 at count last w bytes c.in_ok-low.low c.in_ok-high.high c.in_ok-low.rest.now c.in_ok-high.rest.now
    lows highs (rw same c.in_err-list.ensures))

pub returns-clause-values : goal.returns-clause-values
returns-clause-values c =
    let at = c.args.at in
    let count = c.args.count in
    let last = c.args.last in
    let bytes = c.args.bytes.now in
    let w = low_width count last in
    let wide : w ≡ c.from.result = sym (c.from.ensures ∙ c.width_of-width.ensures.width) in
    let lows : run_at (at + 8) (count * w) bytes ≡ Ok (c.in_ok-low.low, c.in_ok-low.rest.now) = ap (λ (x : ℕ). run_at (at + 8) (count * x) bytes) wide
    ∙ c.in_ok-low.ensures.bits in
    let place : at + 8 + 8 * words_for (count * w) ≡ at + 8 + 8 * c.div_ceil.result = omega (arith, c.div_ceil.ensures, ap (λ (x : ℕ). count * x) wide) in
    let size : high_len count last w ≡ count + last / 2 ^ c.width_of-width.result + 1 =
    ap (λ (x : ℕ). count + last / 2 ^ x + 1) (sym c.width_of-width.ensures.width) in
    let moved = ap (λ (p : ℕ). run_at p (high_len count last w) c.in_ok-low.rest.now) place
    ∙ ap (λ (n : ℕ). run_at (at + 8 + 8 * c.div_ceil.result) n c.in_ok-low.rest.now) size in
    let highs : run_at (at + 8 + 8 * words_for (count * w)) (high_len count last w) c.in_ok-low.rest.now ≡ Ok (c.in_ok-high.high, c.in_ok-high.rest.now) =
    moved ∙ c.in_ok-high.ensures.bits in
    let same : checked at (at + 8 + 8 * words_for (count * w)) count last w c.in_ok-low.low c.in_ok-high.high
    ≡ checked at (at + 8 + 8 * c.div_ceil.result) count last c.width_of-width.result c.in_ok-low.low c.in_ok-high-2.high =
    ap (λ (p : ℕ). checked at p count last w c.in_ok-low.low c.in_ok-high.high) place
    ∙ ap (λ (x : ℕ). checked at (at + 8 + 8 * c.div_ceil.result) count last x c.in_ok-low.low c.in_ok-high.high) (sym c.width_of-width.ensures.width)
    ∙ ap (λ (bs : List Bool). checked at (at + 8 + 8 * c.div_ceil.result) count last c.width_of-width.result c.in_ok-low.low bs)
    (sym c.in_ok-high-2.ensures) in
    parts_at-ok at count last w bytes c.in_ok-low.low c.in_ok-high.high c.in_ok-low.rest.now c.in_ok-high.rest.now c.in_ok-list.list lows highs (same
    ∙ c.in_ok-list.ensures)

-- the low bits are short, or the high bits are where there are no low ones
low_short : (at count last w width place : ℕ) (bytes : List ℕ) → width ≡ w → 0 < count * width →
    (IsShort (run_at (at + 8) (count * width) bytes) → ⊥) → place ≤ at + 8 → parts_at at count last w bytes ≡ Err (fault place 1) → ⊥
low_short at count last w width place bytes same some enough le short =
    let wide : count * width ≡ count * w = ap (λ (x : ℕ). count * x) same in
    elim (parts_short at count last w place bytes short) [
      | inl low ↦ absurd (enough (place, ap (λ (n : ℕ). run_at (at + 8) n bytes) wide ∙ low))
      | inr high ↦
          let p = run_short (at + 8 + 8 * words_for (count * w)) (high_len count last w) place high.0.1 high.2 in
          absurd (omega (arith, p.0, le, wide, some))
    ]

-- the low bits are read, and the high bits are long enough
high_short : (at count last w place : ℕ) (bytes : List ℕ) (low : List Bool × List ℕ) → run_at (at + 8) (count * w) bytes ≡ Ok low →
    (IsShort (run_at (at + 8 + 8 * words_for (count * w)) (high_len count last w) low.1) → ⊥) →
    parts_at at count last w bytes ≡ Err (fault place 1) → ⊥
high_short at count last w place bytes low read enough short =
    elim (parts_short at count last w place bytes short) [
      | inl first ↦ absurd (not_both (sym read ∙ first))
      | inr high ↦
          let same : low ≡ high.0 = ok_is low high.0 (sym read ∙ high.1) in
          let at_high = ap (λ (x : List Bool × List ℕ). run_at (at + 8 + 8 * words_for (count * w)) (high_len count last w) x.1) same in
          absurd (enough (place, at_high ∙ high.2))
    ]

-- both are read
none_short : (at count last w place : ℕ) (bytes : List ℕ) (low high : List Bool × List ℕ) → run_at (at + 8) (count * w) bytes ≡ Ok low →
    run_at (at + 8 + 8 * words_for (count * w)) (high_len count last w) low.1 ≡ Ok high → parts_at at count last w bytes ≡ Err (fault place 1) → ⊥
none_short at count last w place bytes low high read read2 short =
    elim (parts_short at count last w place bytes short) [
      | inl first ↦ absurd (not_both (sym read ∙ first))
      | inr second ↦
          let same : low ≡ second.0 = ok_is low second.0 (sym read ∙ second.1) in
          let at_high = ap (λ (x : List Bool × List ℕ). run_at (at + 8 + 8 * words_for (count * w)) (high_len count last w) x.1) same in
          absurd (not_both (sym read2 ∙ at_high ∙ second.2))
    ]

pub returns-in_err-low-clause-short : goal.returns-in_err-low-clause-short
returns-in_err-low-clause-short c =
    let at = c.args.at in
    let count = c.args.count in
    let last = c.args.last in
    let bytes = c.args.bytes.now in
    let w = low_width count last in
    let wide : c.from.result ≡ w = c.from.ensures ∙ c.width_of-width.ensures.width in
    let e = c.in_err-low.field-0.0 in
    let p = err_from_is_err_and c.from_residual.result c.from_residual.ensures.1 in
    tells at e _ _ (p.1 ∙ ap Err p.2)
    (parts_at-low e at count last w bytes (subst (λ (x : ℕ). Fails e (run_at (at + 8) (count * x) bytes)) wide c.in_err-low.ensures.bits))
    (λ lacks place le short. low_short at count last w c.from.result place bytes wide (c.in_err-low.ensures.some (ap Err lacks))
    (c.in_err-low.ensures.memory (ap Err lacks)) le short)

pub returns-in_err-high-clause-short : goal.returns-in_err-high-clause-short
returns-in_err-high-clause-short c =
    let at = c.args.at in
    let count = c.args.count in
    let last = c.args.last in
    let bytes = c.args.bytes.now in
    let w = low_width count last in
    let wide : w ≡ c.from.result = sym (c.from.ensures ∙ c.width_of-width.ensures.width) in
    let lows : run_at (at + 8) (count * w) bytes ≡ Ok (c.in_ok-low.low, c.in_ok-low.rest.now) = ap (λ (x : ℕ). run_at (at + 8) (count * x) bytes) wide
    ∙ c.in_ok-low.ensures.bits in
    let place : at + 8 + 8 * words_for (count * w) ≡ at + 8 + 8 * c.div_ceil.result = omega (arith, c.div_ceil.ensures, ap (λ (x : ℕ). count * x) wide) in
    let size : high_len count last w ≡ count + last / 2 ^ c.width_of-width.result + 1 =
    ap (λ (x : ℕ). count + last / 2 ^ x + 1) (sym c.width_of-width.ensures.width) in
    let moved = ap (λ (p : ℕ). run_at p (high_len count last w) c.in_ok-low.rest.now) place
    ∙ ap (λ (n : ℕ). run_at (at + 8 + 8 * c.div_ceil.result) n c.in_ok-low.rest.now) size in
    let e = c.in_err-high.field-0.0 in
    let p = err_from_is_err_and c.from_residual-in_err-high.result c.from_residual-in_err-high.ensures.1 in
    tells at e _ _ (p.1 ∙ ap Err p.2)
    (parts_at-high e at count last w bytes c.in_ok-low.low c.in_ok-low.rest.now lows (rw moved c.in_err-high.ensures.bits))
    (λ lacks there le short. high_short at count last w there bytes (c.in_ok-low.low, c.in_ok-low.rest.now) lows
    (λ few. c.in_err-high.ensures.memory (ap Err lacks) (few.0, sym moved ∙ few.1)) short)

pub returns-in_err-high-2-clause-short : goal.returns-in_err-high-2-clause-short
returns-in_err-high-2-clause-short c =
    let at = c.args.at in
    let count = c.args.count in
    let last = c.args.last in
    let bytes = c.args.bytes.now in
    let w = low_width count last in
    let wide : w ≡ c.from.result = sym (c.from.ensures ∙ c.width_of-width.ensures.width) in
    let lows : run_at (at + 8) (count * w) bytes ≡ Ok (c.in_ok-low.low, c.in_ok-low.rest.now) = ap (λ (x : ℕ). run_at (at + 8) (count * x) bytes) wide
    ∙ c.in_ok-low.ensures.bits in
    let place : at + 8 + 8 * words_for (count * w) ≡ at + 8 + 8 * c.div_ceil.result = omega (arith, c.div_ceil.ensures, ap (λ (x : ℕ). count * x) wide) in
    let size : high_len count last w ≡ count + last / 2 ^ c.width_of-width.result + 1 =
    ap (λ (x : ℕ). count + last / 2 ^ x + 1) (sym c.width_of-width.ensures.width) in
    let moved = ap (λ (p : ℕ). run_at p (high_len count last w) c.in_ok-low.rest.now) place
    ∙ ap (λ (n : ℕ). run_at (at + 8 + 8 * c.div_ceil.result) n c.in_ok-low.rest.now) size in
    let highs : run_at (at + 8 + 8 * words_for (count * w)) (high_len count last w) c.in_ok-low.rest.now ≡ Ok (c.in_ok-high.high, c.in_ok-high.rest.now) =
    moved ∙ c.in_ok-high.ensures.bits in
    λ there le short. absurd (none_short at count last w there bytes (c.in_ok-low.low, c.in_ok-low.rest.now) (c.in_ok-high.high, c.in_ok-high.rest.now) lows
    highs short)

pub returns-in_err-list-clause-short : goal.returns-in_err-list-clause-short
returns-in_err-list-clause-short c =
    let at = c.args.at in
    let count = c.args.count in
    let last = c.args.last in
    let bytes = c.args.bytes.now in
    let w = low_width count last in
    let wide : w ≡ c.from.result = sym (c.from.ensures ∙ c.width_of-width.ensures.width) in
    let lows : run_at (at + 8) (count * w) bytes ≡ Ok (c.in_ok-low.low, c.in_ok-low.rest.now) = ap (λ (x : ℕ). run_at (at + 8) (count * x) bytes) wide
    ∙ c.in_ok-low.ensures.bits in
    let place : at + 8 + 8 * words_for (count * w) ≡ at + 8 + 8 * c.div_ceil.result = omega (arith, c.div_ceil.ensures, ap (λ (x : ℕ). count * x) wide) in
    let size : high_len count last w ≡ count + last / 2 ^ c.width_of-width.result + 1 =
    ap (λ (x : ℕ). count + last / 2 ^ x + 1) (sym c.width_of-width.ensures.width) in
    let moved = ap (λ (p : ℕ). run_at p (high_len count last w) c.in_ok-low.rest.now) place
    ∙ ap (λ (n : ℕ). run_at (at + 8 + 8 * c.div_ceil.result) n c.in_ok-low.rest.now) size in
    let highs : run_at (at + 8 + 8 * words_for (count * w)) (high_len count last w) c.in_ok-low.rest.now ≡ Ok (c.in_ok-high.high, c.in_ok-high.rest.now) =
    moved ∙ c.in_ok-high.ensures.bits in
    λ there le short. absurd (none_short at count last w there bytes (c.in_ok-low.low, c.in_ok-low.rest.now) (c.in_ok-high.high, c.in_ok-high.rest.now) lows
    highs short)

pub returns-clause-short : goal.returns-clause-short
returns-clause-short c =
    let at = c.args.at in
    let count = c.args.count in
    let last = c.args.last in
    let bytes = c.args.bytes.now in
    let w = low_width count last in
    let wide : w ≡ c.from.result = sym (c.from.ensures ∙ c.width_of-width.ensures.width) in
    let lows : run_at (at + 8) (count * w) bytes ≡ Ok (c.in_ok-low.low, c.in_ok-low.rest.now) = ap (λ (x : ℕ). run_at (at + 8) (count * x) bytes) wide
    ∙ c.in_ok-low.ensures.bits in
    let place : at + 8 + 8 * words_for (count * w) ≡ at + 8 + 8 * c.div_ceil.result = omega (arith, c.div_ceil.ensures, ap (λ (x : ℕ). count * x) wide) in
    let size : high_len count last w ≡ count + last / 2 ^ c.width_of-width.result + 1 =
    ap (λ (x : ℕ). count + last / 2 ^ x + 1) (sym c.width_of-width.ensures.width) in
    let moved = ap (λ (p : ℕ). run_at p (high_len count last w) c.in_ok-low.rest.now) place
    ∙ ap (λ (n : ℕ). run_at (at + 8 + 8 * c.div_ceil.result) n c.in_ok-low.rest.now) size in
    let highs : run_at (at + 8 + 8 * words_for (count * w)) (high_len count last w) c.in_ok-low.rest.now ≡ Ok (c.in_ok-high.high, c.in_ok-high.rest.now) =
    moved ∙ c.in_ok-high.ensures.bits in
    λ there le short. absurd (none_short at count last w there bytes (c.in_ok-low.low, c.in_ok-low.rest.now) (c.in_ok-high.high, c.in_ok-high.rest.now) lows
    highs short)
