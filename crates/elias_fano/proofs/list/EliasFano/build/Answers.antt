use Rattle.std.proofs.Common.{◌≡◌, ℕ, ◌/◌, ◌^◌, ◌≤◌, length, ◌∙◌, subst, arith}
use Rattle.elias_fano.specs.Values.{values_of}
use Rattle.elias_fano.proofs.BuildLemmas.{built, last_high, last_of-none}
use Rattle.elias_fano.proofs.list.EliasFano.build.Goals as goal

pub high_part-requires-clause-few_high : goal.high_part-requires-clause-few_high
high_part-requires-clause-few_high c =
    let vs = c.args.values.now in
    let few : c.last_value-last.result / 2 ^ c.width_of-width.result ≤ 2 ^ 37 =
    last_high (length vs) c.last_value-last.result c.width_of-width.result c.width_of-width.ensures.few_high (λ none. c.last_value-last.ensures
    ∙ last_of-none vs none) c.requires.few in
    subst (λ (u : ℕ). u / 2 ^ c.width_of-width.result ≤ 2 ^ 37) c.last_value-last.ensures few

pub from_parts-requires : goal.from_parts-requires
from_parts-requires c =
    let vs = c.args.values.now in
    (built vs c.last_value-last.result c.width_of-width.result c.in_ok-low.low c.in_ok-high.high c.requires.rising c.requires.few c.last_value-last.ensures
    (omega arith) c.width_of-width.ensures.width c.in_ok-low.ensures
    (c.in_ok-high.ensures ∙ c.in_ok-high_part.ensures)).0

pub returns : goal.returns
returns c =
    let vs = c.args.values.now in
    let r : c.from_parts.result ≡ values_of c.width_of-width.result c.in_ok-low.low c.in_ok-high.high = c.from_parts.ensures in
    r ∙ (built vs c.last_value-last.result c.width_of-width.result c.in_ok-low.low c.in_ok-high.high c.requires.rising c.requires.few
    c.last_value-last.ensures (omega arith) c.width_of-width.ensures.width c.in_ok-low.ensures
    (c.in_ok-high.ensures ∙ c.in_ok-high_part.ensures)).1
