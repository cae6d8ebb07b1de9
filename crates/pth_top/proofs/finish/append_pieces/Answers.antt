use Rattle.std.proofs.Common.{take, Err, sym, ap, ◌∙◌, arith}
use Rattle.std.proofs.lemmas.Result.{err_from_is_err_and}
use Rattle.pth_outside.specs.FilesLaws.{LeavesFiles-ok, LeavesFiles-if, LeavesFiles-then}
use Rattle.pth_top.proofs.Endings.{leaves_none}
use Rattle.pth_top.proofs.Replacing.{appended-nothing, appended-more, appended-missing, changes-appended, changes-by_error, changes-then, on_err, next_piece}
use Rattle.pth_top.proofs.finish.append_pieces.Goals as goal

pub loop-at-init : goal.loop-at-init
loop-at-init g c = (
  leaves_none (g.F.Files.state c.args.files.now),
  appended-nothing c.args.name.now (g.F.Files.state c.args.files.now).told,
  omega arith,
)

pub returns-in_err-append-clause-err : goal.returns-in_err-append-clause-err
returns-in_err-append-clause-err g c =
    let old = (g.F.Files.state c.args.files.now).told in
    let now = (g.F.Files.state c.loop-at.files).told in
    let new = (g.F.Files.state c.append.new.self).told in
    on_err c.from_residual.result _
    (changes-then c.args.name.now old now new
    (changes-appended c.args.name.now (take c.loop-at.at c.args.bytes.now) old now c.loop-at.invariant.1)
    (changes-by_error c.args.name.now _ now new c.in_err-append.field-0.0 c.in_err-append.ensures.front c.in_err-append.ensures.kept))

pub returns-in_err-append-clause-leaves : goal.returns-in_err-append-clause-leaves
returns-in_err-append-clause-leaves g c =
    let p = err_from_is_err_and c.from_residual.result c.from_residual.ensures.1 in
    LeavesFiles-then _ _ _ c.loop-at.invariant.0
    (LeavesFiles-if _ _ (λ is. sym (p.1 ∙ ap Err p.2) ∙ is)
    (appended-missing c.args.name.now (take c.loop-at.at c.args.bytes.now) (g.F.Files.state c.args.files.now).told
    (g.F.Files.state c.loop-at.files).told c.loop-at.invariant.1)
    c.in_err-append.ensures.leaves)

pub loop-at-preserved : goal.loop-at-preserved
loop-at-preserved g c = (
  LeavesFiles-then _ _ _ c.loop-at.invariant.0 (LeavesFiles-ok _ _ (λ never. never) c.in_ok-append.ensures.leaves),
  appended-more c.args.name.now (take c.loop-at.at c.args.bytes.now) _ _ (g.F.Files.state c.args.files.now).told
      (g.F.Files.state c.loop-at.files).told (g.F.Files.state c.append.new.self).told c.loop-at.invariant.1 c.in_ok-append.ensures.told
      (next_piece c.args.bytes.now c.loop-at.at c.min.result),
  omega (arith, c.min.ensures, c.loop-at.invariant.2),
)
