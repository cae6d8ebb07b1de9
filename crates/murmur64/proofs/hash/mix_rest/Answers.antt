use Rattle.std.proofs.Common.{◌≡◌, ◌<◌, length, ℕ, bit_xor, sym, ap, ◌∙◌, arith}
use Rattle.pthash.specs.declared.TheConstants.{MULTIPLIER}
use Rattle.pthash.specs.Hash.{product, number_of}
use Rattle.std.proofs.lemmas.Grind.{common_steps}
use Rattle.murmur64.proofs.Numbers.{little_from-all}
use Rattle.murmur64.proofs.Steps.{after_rest-some}
use Rattle.murmur64.proofs.hash.mix_rest.Goals as goal

pub returns : goal.returns
returns c =
    let rest = c.args.rest.now in
    let some : 0 < length rest = grind (arith, common_steps) in
    let number : c.read_uint-number.result ≡ number_of rest = c.read_uint-number.ensures ∙ little_from-all rest in
    ap (λ (x : ℕ). product (bit_xor c.args.h x) MULTIPLIER) number ∙ sym (after_rest-some c.args.h rest some)
