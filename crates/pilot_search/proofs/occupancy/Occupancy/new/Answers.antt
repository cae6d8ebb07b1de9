use Rattle.std.proofs.Common.{ℕ, length, ◌/◌, ◌+◌, ap, sym, ◌∙◌, arith}
use Rattle.std.specs.FinSet.{len, len-empty}
use Rattle.std.specs.Ordering.{nat_cmp}
use Rattle.std.proofs.lemmas.List.{length-replicate}
use Rattle.pthash.specs.Search.{set_of}
use Rattle.word_bits.specs.Bits.{is_set}
use Rattle.pilot_search.proofs.Words.{set_of-zeros}
use Rattle.pilot_search.proofs.occupancy.Occupancy.new.Goals as goal

pub invariant_of-result : goal.invariant_of-result
invariant_of-result c =
    let zeros = c.in_ok-words.ensures.items_if_clones_equal (λ y same. same) in
    record {
      positive = c.requires.some;
      bound = c.requires.bound;
      room = omega (arith, ap length zeros, length-replicate {A = ℕ} (c.args.size / 64 + 1) 0);
      counted = sym (ap (λ ws. len (set_of c.args.size (is_set ws 0))) zeros
          ∙ ap len (set_of-zeros c.args.size (c.args.size / 64 + 1)) ∙ len-empty nat_cmp);
    }

pub returns-clause-taken : goal.returns-clause-taken
returns-clause-taken c =
    ap (λ ws. set_of c.args.size (is_set ws 0)) (c.in_ok-words.ensures.items_if_clones_equal (λ y same. same))
    ∙ set_of-zeros c.args.size (c.args.size / 64 + 1)
