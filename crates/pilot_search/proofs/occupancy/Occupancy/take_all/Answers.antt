use Rattle.std.proofs.Common.{take, get_or, refl, sym, ap, ◌∙◌, arith}
use Rattle.std.proofs.lemmas.List.{take_more}
use Rattle.std.specs.FinSet as set
use Rattle.pthash.specs.PositionLaws.{union-none, union-next}
use Rattle.pilot_search.proofs.occupancy.Occupancy.take_all.Goals as goal

pub loop-position-init : goal.loop-position-init
loop-position-init c = record { size = refl; taken = sym (union-none c.args.self.now.taken) }

pub loop-position-preserved : goal.loop-position-preserved
loop-position-preserved c =
    let i = c.loop-position.position-index in
    let position = get_or c.args.positions.now i 0 in
    record {
      size = c.take.ensures.size ∙ c.loop-position.invariant.size;
      taken =
          c.take.ensures.taken
          ∙ ap (λ s. set.insert s position) c.loop-position.invariant.taken
          ∙ union-next c.args.self.now.taken (take i c.args.positions.now) position
          ∙ ap (λ ps. set.union c.args.self.now.taken (set.from_list ps)) (sym (take_more c.args.positions.now i 0 (omega arith)));
    }
