use Rattle.std.proofs.Common.{◌≡◌, ℕ, ◌/◌, ◌%◌, ◌^◌, get_or, take, ap, ◌∙◌, arith}
use Rattle.std.specs.Int.RustNames.{count_ones}
use Rattle.std.proofs.Math.Nat.{mod-one}
use Rattle.std.proofs.lemmas.Nat.{ones-le}
use Rattle.bit_vector.specs.Samples.{all_ones}
use Rattle.bit_vector.proofs.WordOnes.{no_ones, all_ones-take-le, ones_below_place}
use Rattle.bit_vector.proofs.samples.ones_below.Goals as goal

pub overflow_add-below : goal.overflow_add-below
overflow_add-below c =
    let most = all_ones-take-le c.args.words.now c.loop-w.w (λ i. omega (arith, c.type_inv.words i)) in
    let few = ones-le 64 (get_or c.args.words.now c.loop-w.w 0) (omega (arith, c.type_inv.words c.loop-w.w)) in
    let so_far : c.loop-w.below ≡ all_ones (take c.loop-w.w c.args.words.now) = c.loop-w.invariant in
    omega (arith, most, few, so_far, c.from-below.ensures)

pub returns-then-used-eq0 : goal.returns-then-used-eq0
returns-then-used-eq0 c =
    let words = c.args.words.now in
    let at = c.args.at in
    let so_far : c.loop-w.below ≡ all_ones (take c.loop-w.w words) = c.loop-w.invariant in
    let whole : c.loop-w.w ≡ at / 64 = omega arith in
    let none : count_ones (get_or words (at / 64) 0 % 2 ^ (at % 64)) ≡ 0 = ap (λ (s : ℕ). count_ones (get_or words (at / 64) 0 % 2 ^ s)) c.if-used-eq0.true
    ∙ ap count_ones (mod-one (get_or words (at / 64) 0)) ∙ no_ones in
    let sum = ones_below_place words at (λ i. omega (arith, c.type_inv.words i)) c.requires.within in
    let here : c.loop-w.below ≡ all_ones (take (at / 64) words) = so_far ∙ ap (λ (k : ℕ). all_ones (take k words)) whole in
    omega (arith, here, none, sum)

pub overflow_add-result : goal.overflow_add-result
overflow_add-result c =
    let most = all_ones-take-le c.args.words.now c.loop-w.w (λ i. omega (arith, c.type_inv.words i)) in
    let few = ones-le 64 c.low_bits.result (omega (arith, c.low_bits.type_inv)) in
    let so_far : c.loop-w.below ≡ all_ones (take c.loop-w.w c.args.words.now) = c.loop-w.invariant in
    omega (arith, most, few, so_far, c.from.ensures)

pub returns : goal.returns
returns c =
    let words = c.args.words.now in
    let at = c.args.at in
    let so_far : c.loop-w.below ≡ all_ones (take c.loop-w.w words) = c.loop-w.invariant in
    let whole : c.loop-w.w ≡ at / 64 = omega arith in
    let sum = ones_below_place words at (λ i. omega (arith, c.type_inv.words i)) c.requires.within in
    let here : c.loop-w.below ≡ all_ones (take (at / 64) words) = so_far ∙ ap (λ (k : ℕ). all_ones (take k words)) whole in
    let last : c.from.result ≡ count_ones (get_or words (at / 64) 0 % 2 ^ (at % 64)) = c.from.ensures ∙ ap count_ones c.low_bits.ensures in
    omega (arith, here, last, sum)
