use Rattle.std.proofs.Common.{List, ap, ◌∙◌}
use Rattle.pthash.specs.declared.Record.{Record}
use Rattle.pthash.specs.Partitions.{partitions_of}
use Rattle.hem_build.specs.Marks.{mark_by}
use Rattle.hem_build.proofs.cutting.cut_piece.Goals as goal

pub returns : goal.returns
returns c = record {
  cut = c.in_ok-partitions.ensures
      ∙ ap (λ (rs : List Record). partitions_of rs c.args.parts) (c.deref-2.ensures.value ∙ c.in_ok-records.ensures);
  mark = c.mark_of_records-mark.ensures ∙ ap mark_by (c.deref.ensures.value ∙ c.in_ok-records.ensures);
}
