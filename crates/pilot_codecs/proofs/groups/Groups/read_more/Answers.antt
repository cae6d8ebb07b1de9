use Rattle.std.proofs.Common.{ℕ, ◌++◌, List, [], ◌∷◌, length, drop, Ok, Err, sym, ap, ◌∙◌, subst, arith}
use Rattle.std.proofs.lemmas.Result.{err_from_is_err_and}
use Rattle.pilot_codecs.specs.declared.groups.Head.{Head}
use Rattle.pilot_codecs.specs.Parts.{values_in, AreGroups}
use Rattle.pilot_codecs.proofs.GroupLemmas.{group_more_at-ok, group_more_at-fails}
use Rattle.pilot_codecs.proofs.HeadLemmas.{IsAdded, AreGroups-kept, groups-kept, AreGroups-added, groups-added}
use Rattle.elias_fano.proofs.CallerLemmas.{not_both}
use Rattle.pilot_codecs.proofs.ShortLaws.{lacks_is}
use Rattle.pilot_codecs.proofs.groups.Groups.read_more.Goals as goal

pub invariant_of-self : goal.invariant_of-self
invariant_of-self c = AreGroups-kept c.self.inside.words.items c.read_values.new.words.items c.self.inside.heads.items c.read_values.ensures.kept
    c.self.invariant

pub returns-in_err-width-clause-groups : goal.returns-in_err-width-clause-groups
returns-in_err-width-clause-groups c =
    let p = err_from_is_err_and c.from_residual.result c.from_residual.ensures.1 in
    rw (p.1, p.2) (group_more_at-fails c.in_err-width.field-0.0 c.args.self.now c.args.at c.args.count c.args.bytes.now c.in_err-width.ensures.values)

pub invariant_of-self-in_err-push : goal.invariant_of-self-in_err-push
invariant_of-self-in_err-push c =
    let old = c.self.inside.words.items in
    let new = c.read_values.new.words.items in
    let heads = c.self.inside.heads.items in
    subst (λ (hs : List Head). AreGroups new hs) (sym c.in_err-push.ensures.items) (AreGroups-kept old new heads c.read_values.ensures.kept c.self.invariant)

pub invariant_of-self-2 : goal.invariant_of-self-2
invariant_of-self-2 c =
    let old = c.self.inside.words.items in
    let new = c.read_values.new.words.items in
    let heads = c.self.inside.heads.items in
    let head : Head = record { count = c.args.count; width = c.in_ok-width.width; start = c.len-start.result } in
    let added : IsAdded old new head = record {
      kept = c.read_values.ensures.kept;
      start = omega (arith, c.len-start.ensures, c.self.inside.words.ok.0);
      compact = c.in_ok-width.ensures.compact;
    } in
    AreGroups-added old new heads c.push.new.self.items head c.self.invariant added c.in_ok-push.ensures.items

pub returns-clause-groups : goal.returns-clause-groups
returns-clause-groups c =
    let old = c.self.inside.words.items in
    let new = c.read_values.new.words.items in
    let heads = c.self.inside.heads.items in
    let head : Head = record { count = c.args.count; width = c.in_ok-width.width; start = c.len-start.result } in
    let added : IsAdded old new head = record {
      kept = c.read_values.ensures.kept;
      start = omega (arith, c.len-start.ensures, c.self.inside.words.ok.0);
      compact = c.in_ok-width.ensures.compact;
    } in
    let group = values_in c.args.count c.in_ok-width.width (drop (length old) new) in
    let more = groups-added old new heads c.push.new.self.items head c.self.invariant added c.in_ok-push.ensures.items
    ∙ ap (λ (gs : List (List ℕ)). gs ++ group ∷ []) c.self.view_is in
    group_more_at-ok c.args.self.now c.args.at c.args.count c.args.bytes.now group c.in_ok-width.rest.now c.in_ok-width.ensures.values
    ∙ ap (λ (gs : List (List ℕ)). Ok (gs, c.in_ok-width.rest.now)) (sym more)

pub returns-in_err-width-clause-err : goal.returns-in_err-width-clause-err
returns-in_err-width-clause-err c =
    let p = err_from_is_err_and c.from_residual.result c.from_residual.ensures.1 in
    rw p.1 (groups-kept c.self.inside.words.items c.read_values.new.words.items c.self.inside.heads.items c.read_values.ensures.kept c.self.invariant
    ∙ c.self.view_is)

pub returns-in_err-push-clause-err : goal.returns-in_err-push-clause-err
returns-in_err-push-clause-err c =
    let p = err_from_is_err_and c.from_residual-in_err-push.result c.from_residual-in_err-push.ensures.1 in
    rw (p.1, c.in_err-push.ensures.items)
    (groups-kept c.self.inside.words.items c.read_values.new.words.items c.self.inside.heads.items c.read_values.ensures.kept c.self.invariant
    ∙ c.self.view_is)

pub returns-in_err-width-clause-memory : goal.returns-in_err-width-clause-memory
returns-in_err-width-clause-memory c = λ lacks short.
    let p = err_from_is_err_and c.from_residual.result c.from_residual.ensures.1 in
    c.in_err-width.ensures.memory (ap Err (lacks_is c.in_err-width.field-0.0 c.from_residual.result (p.1 ∙ ap Err p.2) lacks)) short

pub returns-in_err-push-clause-memory : goal.returns-in_err-push-clause-memory
returns-in_err-push-clause-memory c = λ lacks short. not_both (sym c.in_ok-width.ensures.values ∙ short.1)
