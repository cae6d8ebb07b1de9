use Rattle.std.proofs.Common.{◌≡◌, ℕ, ◌+◌, ◌-◌, ◌≤◌, [], ◌∷◌, ◌++◌}
use Rattle.std.proofs.Common.{Ok, Err, length, refl, sym, ap, ◌∙◌, subst, arith}
use Rattle.std.specs.Prelude.{slice_index}
use Rattle.std.specs.Vec.Iter.{into_iter_items}
use Rattle.std.proofs.lemmas.List.{length-append}
use Rattle.std.proofs.lemmas.Result.{IfOk-at_ok}
use Rattle.settings.specs.Settings.{settings_data}
use Rattle.build_outcome.specs.Ranges.{parts_between}
use Rattle.hem_build.specs.Answers.{group_data, AreGroupAnswers}
use Rattle.hem_build.specs.Rules.{rules_of}
use Rattle.hem_build.proofs.Grouping.{IsBuiltTo, all_between, answers_count, group_more, group_stuck}
use Rattle.hem_build.proofs.groups.join_groups.Goals as goal

pub loop-answer-preserved : goal.loop-answer-preserved
loop-answer-preserved c =
    let rules = rules_of (settings_data c.args.settings.now) in
    let partitions = c.args.partitions.now in
    let starts = c.args.starts.now in
    let at = c.loop-answer in
    let group : ℕ = length at.yielded in
    let x = c.in-Some.answer in
    let steps = c.in-Some.ensures.steps.0 in
    let left = subst (λ answers. AreGroupAnswers rules c.args.seed partitions starts group answers) steps at.invariant.left in
    let counted = answers_count rules c.args.seed partitions starts (group + 1) (into_iter_items c.next.new.self) left.1 in
    let below : group + 1 ≤ length starts - 1 = omega arith in
    let up : slice_index starts group ≤ slice_index starts (group + 1) = c.requires.starts.rising group (omega arith) in
    let within : slice_index starts (group + 1) ≤ length partitions = c.requires.starts.within (group + 1) below in
    let count : length (at.yielded ++ x ∷ []) ≡ group + 1 = omega (arith, length-append at.yielded (x ∷ [])) in
    let ends : Ok c.in-Ok.parts.items ≡ parts_between rules c.args.seed partitions (slice_index starts group) (slice_index starts (group + 1)) =
    ap group_data (sym c.in-Ok.is) ∙ IfOk-at_ok (λ ends. group_data ends
    ≡ parts_between rules c.args.seed partitions (slice_index starts group) (slice_index starts (group + 1))) c.in_ok-parts.was left.0 in
    let more : IsBuiltTo rules c.args.seed partitions 0 (length partitions) (slice_index starts (group + 1)) (at.all.items ++ c.in-Ok.parts.items) =
    group_more rules c.args.seed 0 (slice_index starts group) (slice_index starts (group + 1)) (length partitions) partitions at.all.items c.in-Ok.parts.items
    up within (omega arith) ends at.invariant.so_far in
    record {
      left = subst (λ n. AreGroupAnswers rules c.args.seed partitions starts n (into_iter_items c.next.new.self)) (sym count) left.1;
      len = let was = at.invariant.len in let gone = c.in-Some.ensures.steps.1 in let short = ap length steps in omega arith;
      so_far = subst (λ n. IsBuiltTo rules c.args.seed partitions 0 (length partitions) (slice_index starts n) c.append.new.self.items) (sym count)
          (subst (λ v. IsBuiltTo rules c.args.seed partitions 0 (length partitions) (slice_index starts (group + 1)) v)
          (sym c.in_ok-append-in-Ok.ensures.items) more);
    }

pub returns-in-Err : goal.returns-in-Err
returns-in-Err c =
    let rules = rules_of (settings_data c.args.settings.now) in
    let partitions = c.args.partitions.now in
    let starts = c.args.starts.now in
    let at = c.loop-answer in
    let group : ℕ = length at.yielded in
    let steps = c.in-Some.ensures.steps.0 in
    let left = subst (λ answers. AreGroupAnswers rules c.args.seed partitions starts group answers) steps at.invariant.left in
    let counted = answers_count rules c.args.seed partitions starts (group + 1) (into_iter_items c.next.new.self) left.1 in
    let below : group + 1 ≤ length starts - 1 = omega arith in
    let up : slice_index starts group ≤ slice_index starts (group + 1) = c.requires.starts.rising group (omega arith) in
    let within : slice_index starts (group + 1) ≤ length partitions = c.requires.starts.within (group + 1) below in
    let ends : Err (c.in-Err.stuck.part, c.in-Err.stuck.bucket)
    ≡ parts_between rules c.args.seed partitions (slice_index starts group) (slice_index starts (group + 1)) =
    ap group_data (sym c.in-Err.is) ∙ IfOk-at_ok (λ ends. group_data ends
    ≡ parts_between rules c.args.seed partitions (slice_index starts group) (slice_index starts (group + 1))) c.in_ok-parts.was left.0 in
    group_stuck rules c.args.seed 0 (slice_index starts group) (slice_index starts (group + 1)) (length partitions) partitions at.all.items
    (c.in-Err.stuck.part, c.in-Err.stuck.bucket) up within (omega arith) ends at.invariant.so_far
    ∙ all_between rules c.args.seed (length partitions) partitions refl
