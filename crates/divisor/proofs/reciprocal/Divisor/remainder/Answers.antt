use Rattle.std.proofs.Common.{◌*◌, ◌/◌, ◌%◌, ap, ◌∙◌, arith}
use Rattle.divisor.proofs.Quotients.{quotient_near, rest_below, rest_above}
use Rattle.divisor.proofs.reciprocal.Divisor.remainder.Goals as goal

pub overflow_sub-rest : goal.overflow_sub-rest
overflow_sub-rest c =
    (quotient_near c.args.x c.self.inside.value c.self.inside.reciprocal c.self.invariant.positive c.self.invariant.exact (omega arith)).0

pub returns-then-rest-self-clause-value : goal.returns-then-rest-self-clause-value
returns-then-rest-self-clause-value c =
    let both = quotient_near c.args.x c.self.inside.value c.self.inside.reciprocal c.self.invariant.positive c.self.invariant.exact (omega arith) in
    rest_below c.args.x c.self.inside.value (c.args.x * c.self.inside.reciprocal / 18446744073709551616) both.0 c.if-rest-self.true
    ∙ ap (λ v. c.args.x % v) c.self.view_is

pub returns-else-rest-self-clause-value : goal.returns-else-rest-self-clause-value
returns-else-rest-self-clause-value c =
    let both = quotient_near c.args.x c.self.inside.value c.self.inside.reciprocal c.self.invariant.positive c.self.invariant.exact (omega arith) in
    rest_above c.args.x c.self.inside.value (c.args.x * c.self.inside.reciprocal / 18446744073709551616) both.0 both.1 c.if-rest-self.false
    ∙ ap (λ v. c.args.x % v) c.self.view_is

pub returns-else-rest-self-clause-below : goal.returns-else-rest-self-clause-below
returns-else-rest-self-clause-below c =
    let both = quotient_near c.args.x c.self.inside.value c.self.inside.reciprocal c.self.invariant.positive c.self.invariant.exact (omega arith) in
    omega (arith, c.self.view_is, both.1, c.if-rest-self.false)
