use Rattle.std.proofs.Common.{◌∙◌}
use Rattle.hem_build.proofs.Clashes.{clash_of_seen}
use Rattle.hem_build.proofs.clash.first_clash.Goals as goal

pub returns : goal.returns
returns g c =
    clash_of_seen c.args.keys.now c.args.seed c.as_mut_slice.result.now c.clash_among.result (c.as_mut_slice.ensures.value ∙ c.in_ok-records.ensures)
    c.clash_among.ensures.none c.clash_among.ensures.least
