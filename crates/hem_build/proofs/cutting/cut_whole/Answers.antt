use Rattle.std.proofs.Common.{◌≡◌, List, length, sym, ap, ◌∙◌, subst, rules}
use Rattle.std.specs.Prelude.{All}
use Rattle.pthash.specs.declared.Record.{Record}
use Rattle.pthash.specs.Partitions.{partitions_of}
use Rattle.pthash.specs.RecordLaws.{HashesFit, All-HashesFit-records_of}
use Rattle.hem_build.specs.Gathering.{all_gathered}
use Rattle.hem_build.specs.Marks.{mark_by}
use Rattle.hem_build.proofs.Marking.{mark_by-records_of}
use Rattle.hem_build.proofs.PieceLaws.{whole_all, whole_gathered}
use Rattle.hem_build.proofs.cutting.cut_whole.Goals as goal

pub cut_records-requires-clause-fit : goal.cut_records-requires-clause-fit
cut_records-requires-clause-fit g c =
    subst (λ rs. All HashesFit rs) (sym c.in_ok-records.ensures) (All-HashesFit-records_of c.args.keys.now c.args.seed)

pub new-pieces-requires : goal.new-pieces-requires
new-pieces-requires g c =
    subst (λ parts. All (λ (piece : List (List Record)). length piece ≡ parts) c.push.new.self.items) (sym c.from.ensures)
    (whole_all c.in_ok-records.records.items c.args.parts c.in_ok-partitions.partitions c.push.new.self.items (search rules) c.in_ok-partitions.ensures)

pub returns-clause-pieces : goal.returns-clause-pieces
returns-clause-pieces g c =
    c.new-pieces.ensures
    ∙ ap (all_gathered c.push.new.self.items) c.from.ensures
    ∙ whole_gathered c.in_ok-records.records.items c.args.parts c.in_ok-partitions.partitions c.push.new.self.items (search rules) c.in_ok-partitions.ensures
    ∙ ap (λ (rs : List Record). partitions_of rs c.args.parts) c.in_ok-records.ensures

pub returns-clause-mark : goal.returns-clause-mark
returns-clause-mark g c =
    c.mark_of_records-mark.ensures ∙ ap mark_by (c.deref.ensures.value ∙ c.in_ok-records.ensures) ∙ mark_by-records_of c.args.keys.now c.args.seed
