use Rattle.std.proofs.Common.{◌≡◌, ℕ, ◌%◌, Bool, sym, ap, ◌∙◌, subst}
use Rattle.std.specs.Prelude.{not, bit_xor, slice_index}
use Rattle.std.specs.FinSet.{contains}
use Rattle.pilot_search.specs.Flags.{FailWhereSet, is_free_under}
use Rattle.pilot_search.proofs.FlagLemmas.{one_flag}
use Rattle.pilot_search.proofs.groups.flag.Goals as goal

pub returns-clause-fail : goal.returns-clause-fail
returns-clause-fail c =
    let table = c.args.occupied.now in
    let test : ℕ → Bool = is_free_under c.args.hashes.now c.args.member table in
    let word : ℕ = bit_xor c.args.member (slice_index c.args.hashes.now c.args.from) in
    let position : c.remainder.result ≡ word % table.size = c.remainder.ensures.value ∙ ap (λ s. word % s) c.requires.size in
    let known : test c.args.from ≡ not c.contains-is_taken.result =
    ap (λ p. not (contains table.taken p)) (sym position) ∙ ap not (sym c.contains-is_taken.ensures) in
    subst (FailWhereSet test c.args.from) (sym c.from.ensures) (one_flag test c.args.from c.contains-is_taken.result known)
