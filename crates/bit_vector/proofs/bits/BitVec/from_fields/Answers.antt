use Rattle.std.proofs.Common.{◌≡◌, ℕ, ◌*◌, ◌++◌, List, length, ap, ◌∙◌, arith}
use Rattle.bit_vector.specs.Bits.{bits_of_each, packed}
use Rattle.bit_vector.proofs.FieldLemmas.{fields_packed}
use Rattle.bit_vector.proofs.bits.BitVec.from_fields.Goals as goal

pub invariant_of-result : goal.invariant_of-result
invariant_of-result c =
    let vs = c.args.values.now in
    let w = c.args.width in
    let len : length vs * c.from.result ≡ length vs * w = ap (λ (j : ℕ). length vs * j) c.from.ensures in
    let words = c.in_ok-append_fields.ensures.ok ∙ ap (λ (xs : List ℕ). xs ++ packed (bits_of_each w vs)) c.in_ok-words.ensures.items in
    ((fields_packed w (length vs * c.from.result) vs c.append_fields.new.words.items words len).0, omega (arith, len, c.requires.room))

pub returns : goal.returns
returns c =
    let vs = c.args.values.now in
    let w = c.args.width in
    let len : length vs * c.from.result ≡ length vs * w = ap (λ (j : ℕ). length vs * j) c.from.ensures in
    let words = c.in_ok-append_fields.ensures.ok ∙ ap (λ (xs : List ℕ). xs ++ packed (bits_of_each w vs)) c.in_ok-words.ensures.items in
    (fields_packed w (length vs * c.from.result) vs c.append_fields.new.words.items words len).1
