use Rattle.std.proofs.Common.{◌≡◌, ℕ, ◌+◌, ◌*◌, length, Err, sym, ap, ◌∙◌, arith}
use Rattle.elias_fano.specs.Reading.{fault}
use Rattle.pilot_codecs.specs.Reading.{are_below, are_used}
use Rattle.pilot_codecs.proofs.DictForms.{used_at-below, used_at-used, used_at-ok}
use Rattle.pilot_codecs.proofs.dict.used_of.Goals as goal

pub returns-then-not-below : goal.returns-then-not-below
returns-then-not-below c =
    let ds = c.args.entries.items in
    let size : c.len-size.result ≡ length ds = omega (arith, c.len-size.ensures, c.args.entries.ok.0) in
    used_at-below c.args.at ds c.args.places (ap (λ (k : ℕ). are_below k c.args.places) (sym size) ∙ sym c.in_ok-below.ensures.below
    ∙ c.if-not-below.true)
    ∙ ap (λ (k : ℕ). Err (fault (c.args.at + 8 + 8 * k + 8) 5)) (sym size)

pub returns-then-not-used : goal.returns-then-not-used
returns-then-not-used c =
    let ds = c.args.entries.items in
    let size : c.len-size.result ≡ length ds = omega (arith, c.len-size.ensures, c.args.entries.ok.0) in
    used_at-used c.args.at ds c.args.places (ap (λ (k : ℕ). are_below k c.args.places) (sym size) ∙ sym c.in_ok-below.ensures.below
    ∙ c.if-not-below.false)
    (ap (λ (k : ℕ). are_used k c.args.places) (sym size) ∙ sym (c.in_ok-below.ensures.used c.if-not-below.false) ∙ c.if-not-used.true)

pub invariant_of-result : goal.invariant_of-result
invariant_of-result c =
    let ds = c.args.entries.items in
    let size : c.len-size.result ≡ length ds = omega (arith, c.len-size.ensures, c.args.entries.ok.0) in
    record {
      rising = c.requires.rising;
      below = ap (λ (k : ℕ). are_below k c.args.places) (sym size) ∙ sym c.in_ok-below.ensures.below ∙ c.if-not-below.false;
      used = ap (λ (k : ℕ). are_used k c.args.places) (sym size) ∙ sym (c.in_ok-below.ensures.used c.if-not-below.false) ∙ c.if-not-used.false;
    }

pub returns : goal.returns
returns c =
    let ds = c.args.entries.items in
    let size : c.len-size.result ≡ length ds = omega (arith, c.len-size.ensures, c.args.entries.ok.0) in
    used_at-ok c.args.at ds c.args.places (ap (λ (k : ℕ). are_below k c.args.places) (sym size) ∙ sym c.in_ok-below.ensures.below ∙ c.if-not-below.false)
    (ap (λ (k : ℕ). are_used k c.args.places) (sym size) ∙ sym (c.in_ok-below.ensures.used c.if-not-below.false) ∙ c.if-not-used.false)
