use Rattle.std.proofs.Common.{◌≡◌, ℕ, ◌+◌, ◌*◌, ap, arith}
use Rattle.std.specs.Int.RustNames.{count_ones}
use Rattle.bit_vector.proofs.SampleLemmas.{none_passed, some_passed}
use Rattle.bit_vector.proofs.samples.passed.Goals as goal
use Rattle.bit_vector.proofs.samples.passed.Goals.{then-left-half, else-left-half}

pub returns-then-left-next : goal.returns-then-left-next
returns-then-left-next c =
    let rest = c.args.rest in
    let left = c.args.left in
    let size = c.args.quarter in
    let first = ap count_ones c.low_bits-first.ensures in
    let half = ap count_ones c.low_bits-half.ensures in
    let third = ap count_ones c.low_bits-third.ensures in
    let next = c.if-left-next.true in
    elim c.if-left-half.branch [
      | then-left-half w ↦
          let next_is = ap (λ (p : ℕ × ℕ × ℕ). p.2) w.skip-is in
          rw w.skip-is (none_passed rest left size (omega (arith, next, next_is, first)))
      | else-left-half w ↦
          let next_is = ap (λ (p : ℕ × ℕ × ℕ). p.2) w.skip-is in
          rw (w.skip-is, c.low_bits-half.ensures) (some_passed rest left size (2 * size) (3 * size) (omega arith) (omega arith)
          (omega (arith, w.if-left-half.false, half)) (omega (arith, next, next_is, third)))
    ]

pub returns-else-left-next : goal.returns-else-left-next
returns-else-left-next c =
    let rest = c.args.rest in
    let left = c.args.left in
    let size = c.args.quarter in
    let first = ap count_ones c.low_bits-first.ensures in
    let half = ap count_ones c.low_bits-half.ensures in
    let third = ap count_ones c.low_bits-third.ensures in
    let next = c.if-left-next.false in
    elim c.if-left-half.branch [
      | then-left-half w ↦
          let next_is = ap (λ (p : ℕ × ℕ × ℕ). p.2) w.skip-is in
          let skip : 0 + size ≡ size = omega arith in
          rw (w.skip-is, c.low_bits-first.ensures, skip) (some_passed rest left size size (2 * size) (omega arith) (omega arith)
          (omega (arith, next, next_is, first)) (omega (arith, w.if-left-half.true, half)))
      | else-left-half w ↦
          let next_is = ap (λ (p : ℕ × ℕ × ℕ). p.2) w.skip-is in
          let skip : 2 * size + size ≡ 3 * size = omega arith in
          rw (w.skip-is, c.low_bits-third.ensures, skip) (some_passed rest left size (3 * size) (4 * size) (omega arith) (omega arith)
          (omega (arith, next, next_is, third)) c.requires.here)
    ]
