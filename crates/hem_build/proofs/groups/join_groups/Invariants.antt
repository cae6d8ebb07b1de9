use Rattle.std.proofs.Common.{◌≡◌, length}
use Rattle.std.specs.Prelude.{slice_index}
use Rattle.std.specs.Vec.Iter.{into_iter_items, into_iter_len}
use Rattle.settings.specs.Settings.{settings_data}
use Rattle.hem_build.specs.Answers.{AreGroupAnswers}
use Rattle.hem_build.specs.Rules.{rules_of}
use Rattle.hem_build.proofs.Grouping.{IsBuiltTo}
use Rattle.hem_build.proofs.groups.join_groups.Given as goal

abbrev pub invariant-loop-answer : goal.invariant-loop-answer
invariant-loop-answer l = record {
  left : AreGroupAnswers (rules_of (settings_data l.settings)) l.seed l.partitions l.starts (length l.yielded) (into_iter_items l.answer-iterator);
  len : into_iter_len l.answer-iterator ≡ length (into_iter_items l.answer-iterator);
  so_far : IsBuiltTo (rules_of (settings_data l.settings)) l.seed l.partitions 0 (length l.partitions) (slice_index l.starts (length l.yielded)) l.all.items;
}
