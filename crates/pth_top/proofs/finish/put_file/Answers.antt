use Rattle.std.proofs.Common.{Err, sym, ap, ◌∙◌}
use Rattle.std.proofs.lemmas.Result.{err_from_is_err_and}
use Rattle.pth_outside.specs.FilesLaws.{LeavesFiles-if, LeavesFiles-then}
use Rattle.pth_top.proofs.Replacing.{appended-missing, changes-none, changes-created, changes-appended, changes-then, created-there, replaced, on_err}
use Rattle.pth_top.proofs.finish.put_file.Goals as goal

pub returns-in_err-append_pieces-clause-err : goal.returns-in_err-append_pieces-clause-err
returns-in_err-append_pieces-clause-err g c =
    let tmp = c.args.tmp.now in
    let old = (g.F.Files.state c.args.files.now).told in
    let one = (g.F.Files.state c.create.new.self).told in
    on_err c.from_residual-in_err-append_pieces.result _
    (changes-then tmp old one (g.F.Files.state c.append_pieces.new.files).told (changes-created tmp old one c.in_ok-create.ensures.told)
    c.in_err-append_pieces.ensures.err)

pub returns-in_err-append_pieces-clause-leaves : goal.returns-in_err-append_pieces-clause-leaves
returns-in_err-append_pieces-clause-leaves g c =
    let p = err_from_is_err_and c.from_residual-in_err-append_pieces.result c.from_residual-in_err-append_pieces.ensures.1 in
    LeavesFiles-then _ _ _ c.in_ok-create.ensures.leaves
    (LeavesFiles-if _ _ (λ is. sym (p.1 ∙ ap Err p.2) ∙ is)
    (created-there c.args.tmp.now (g.F.Files.state c.args.files.now).told (g.F.Files.state c.create.new.self).told c.in_ok-create.ensures.told)
    c.in_err-append_pieces.ensures.leaves)

pub returns-in_err-publish-clause-err : goal.returns-in_err-publish-clause-err
returns-in_err-publish-clause-err g c =
    let tmp = c.args.tmp.now in
    let old = (g.F.Files.state c.args.files.now).told in
    let one = (g.F.Files.state c.create.new.self).told in
    let two = (g.F.Files.state c.append_pieces.new.files).told in
    on_err c.from_residual-in_err-publish.result _
    (changes-then tmp old two (g.F.Files.state c.publish.new.self).told
    (changes-then tmp old one two (changes-created tmp old one c.in_ok-create.ensures.told)
    (changes-appended tmp c.args.bytes.now one two c.in_ok-append_pieces.ensures.ok))
    (changes-none tmp two (g.F.Files.state c.publish.new.self).told c.in_err-publish.ensures.err))

pub returns-in_err-publish-clause-leaves : goal.returns-in_err-publish-clause-leaves
returns-in_err-publish-clause-leaves g c =
    let p = err_from_is_err_and c.from_residual-in_err-publish.result c.from_residual-in_err-publish.ensures.1 in
    let one = (g.F.Files.state c.create.new.self).told in
    LeavesFiles-then _ _ _ c.in_ok-create.ensures.leaves
    (LeavesFiles-then _ _ _ c.in_ok-append_pieces.ensures.leaves
    (LeavesFiles-if _ _ (λ is. sym (p.1 ∙ ap Err p.2) ∙ is)
    (λ none. created-there c.args.tmp.now (g.F.Files.state c.args.files.now).told one c.in_ok-create.ensures.told
    (appended-missing c.args.tmp.now c.args.bytes.now one (g.F.Files.state c.append_pieces.new.files).told
    c.in_ok-append_pieces.ensures.ok none))
    c.in_err-publish.ensures.leaves))

pub returns-clause-ok : goal.returns-clause-ok
returns-clause-ok g c =
    replaced (record { name = c.args.name.now; bytes = c.args.bytes.now }) c.args.tmp.now (g.F.Files.state c.args.files.now).told
    (g.F.Files.state c.create.new.self).told (g.F.Files.state c.append_pieces.new.files).told (g.F.Files.state c.publish.new.self).told
    c.requires c.in_ok-create.ensures.told c.in_ok-append_pieces.ensures.ok c.in_ok-publish.ensures.told
