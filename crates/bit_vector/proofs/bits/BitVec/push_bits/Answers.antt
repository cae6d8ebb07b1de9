use Rattle.std.proofs.Common.{◌≡◌, ℕ, ◌+◌, ◌++◌, List, [], Bool, length, refl, sym, ap, ◌∙◌, arith}
use Rattle.std.proofs.lemmas.List.{append-nil}
use Rattle.bit_vector.specs.Bits.{bits_of, words_number}
use Rattle.bit_vector.proofs.BitLemmas.{bits_of-append, length-bits_of}
use Rattle.bit_vector.proofs.bits.BitVec.push_bits.Goals as goal

none_put : (w n : ℕ) → w ≡ 0 → [] ≡ bits_of w n
unfolding bits_of
none_put w n e = rw e refl

pub returns-then-width-eq0-clause-ok : goal.returns-then-width-eq0-clause-ok
returns-then-width-eq0-clause-ok c = sym (append-nil c.args.self.now)
    ∙ ap (λ (bs : List Bool). c.args.self.now ++ bs) (none_put c.args.width c.args.value c.if-width-eq0.true)

pub invariant_of-self-2 : goal.invariant_of-self-2
invariant_of-self-2 c =
    let n : length c.args.self.now ≡ c.self.inside.len = sym (ap length c.self.view_is)
    ∙ length-bits_of c.self.inside.len (words_number c.self.inside.words.items) in
    (rw c.from.ensures c.in_ok-append.ensures.packed, omega (arith, n))

pub returns-clause-ok : goal.returns-clause-ok
returns-clause-ok c =
    let len = c.self.inside.len in
    let n = words_number c.self.inside.words.items in
    let same : len + c.args.width ≡ len + c.from.result = omega (arith, c.from.ensures) in
    ap (λ (m : ℕ). bits_of (len + c.from.result) m) c.in_ok-append.ensures.ok
    ∙ bits_of-append len c.args.width (len + c.from.result) n c.args.value same c.self.invariant.0.clear
    ∙ ap (λ (bs : List Bool). bs ++ bits_of c.args.width c.args.value) c.self.view_is
