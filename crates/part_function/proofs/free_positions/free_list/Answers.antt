use Rattle.std.proofs.Common.{ap, ◌∙◌}
use Rattle.std.specs.FinSet.{contains}
use Rattle.build_outcome.specs.FreeList.{free_list_of}
use Rattle.build_outcome.specs.FreeListLaws.{free_list_of-rises}
use Rattle.elias_fano.specs.Spelling.{rises}
use Rattle.part_function.proofs.Rising.{rises-all}
use Rattle.part_function.proofs.free_positions.free_list.Goals as goal

pub build-requires-clause-rising : goal.build-requires-clause-rising
build-requires-clause-rising c =
    let is_taken = contains c.args.occupied.now.taken in
    ap (rises 0) (c.deref.ensures.value ∙ c.in_ok-entries.ensures.entries)
    ∙ rises-all (free_list_of is_taken c.args.n c.args.occupied.now.size) (free_list_of-rises is_taken c.args.n c.args.occupied.now.size)
