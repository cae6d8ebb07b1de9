use Rattle.std.proofs.Common.{◌≡◌, ◌≤◌, ◌*◌, ◌^◌, ℕ, List, length, get_or, take, inl, inr, ap, sym, subst, ◌∙◌, arith}
use Rattle.std.proofs.lemmas.Bool.{cases_lt}
use Rattle.std.proofs.lemmas.List.{get_or_past}
use Rattle.bit_vector.specs.Bits.{words_number}
use Rattle.bit_vector.specs.Samples.{IsCounted, IsSampled, all_ones}
use Rattle.bit_vector.proofs.BitLemmas.{length-bits_of}
use Rattle.bit_vector.proofs.SampleLemmas.{length-packed}
use Rattle.bit_vector.proofs.select.Selector.new.Goals as goal

few_counts : (ws counts : List ℕ) (b : ℕ) → IsCounted ws counts → ((k : ℕ) → all_ones (take k ws) ≤ 2 ^ 42) → get_or counts b 0 ≤ 2 ^ 42
few_counts ws counts b counted most =
    elim (cases_lt b (length counts)) [
      | inl lt ↦ omega (arith, counted.before b lt, most (16 * b))
      | inr le ↦ omega (arith, get_or_past counts b 0 le)
    ]

pub counts_of-requires : goal.counts_of-requires
counts_of-requires c =
    let n : length c.args.bits ≡ c.bits.inside.len = sym (ap length c.bits.view_is)
    ∙ length-bits_of c.bits.inside.len (words_number c.bits.inside.words.items) in
    omega (arith, n, ap length c.words.ensures, length-packed c.args.bits, c.bits.invariant.1)

pub samples_of-requires : goal.samples_of-requires
samples_of-requires c =
    let n : length c.args.bits ≡ c.bits.inside.len = sym (ap length c.bits.view_is)
    ∙ length-bits_of c.bits.inside.len (words_number c.bits.inside.words.items) in
    omega (arith, n, ap length c.words-2.ensures, length-packed c.args.bits, c.bits.invariant.1)

pub invariant_of-result : goal.invariant_of-result
invariant_of-result c =
    let n : length c.args.bits ≡ c.bits.inside.len = sym (ap length c.bits.view_is)
    ∙ length-bits_of c.bits.inside.len (words_number c.bits.inside.words.items) in (
      subst (λ (ws : List ℕ). IsCounted ws c.in_ok-counts.counts.items) c.words.ensures c.in_ok-counts.ensures,
      subst (λ (ws : List ℕ). IsSampled ws c.in_ok-samples.samples.items) c.words-2.ensures c.in_ok-samples.ensures,
      omega (arith, n, c.bits.invariant.1),
    )
