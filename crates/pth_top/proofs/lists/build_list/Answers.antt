use Rattle.std.proofs.Common.{◌≡◌, ap, ◌∙◌}
use Rattle.std.specs.Prelude.{codes}
use Rattle.command_words.specs.Options.{options_data}
use Rattle.pth_top.specs.Done.{done_of, or_refused}
use Rattle.pth_top.specs.Lists.{list_in}
use Rattle.pth_top.proofs.Listed.{of_file, index_in-listed, index_in-refused}
use Rattle.pth_top.proofs.lists.build_list.Goals as goal

pub returns-in_ok-build_all-in-Ok-clause-done : goal.returns-in_ok-build_all-in-Ok-clause-done
returns-in_ok-build_all-in-Ok-clause-done g c =
    let o = options_data c.args.options.now in
    of_file (g.F.Files.state c.args.files.now).told c.args.name.now
    (λ bytes. list_in (codes "keys") o.most bytes ≡ or_refused c.in_ok-keys.field-0) _
    (λ bytes listed. index_in-listed o c.in-Ok.keys (or_refused c.in_ok-build_all-in-Ok.field-0) bytes (listed ∙ ap or_refused c.in-Ok.is)
    c.in_ok-build_all-in-Ok.ensures.done)
    c.in_ok-keys.ensures.done

pub returns-in-Err-clause-done : goal.returns-in-Err-clause-done
returns-in-Err-clause-done g c =
    let o = options_data c.args.options.now in
    of_file (g.F.Files.state c.args.files.now).told c.args.name.now
    (λ bytes. list_in (codes "keys") o.most bytes ≡ or_refused c.in_ok-keys.field-0) _
    (λ bytes refused. index_in-refused o (done_of c.in-Err.refusal) bytes (refused ∙ ap or_refused c.in-Err.is))
    c.in_ok-keys.ensures.done
