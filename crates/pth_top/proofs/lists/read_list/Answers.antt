use Rattle.std.proofs.Common.{◌≡◌, Some, Err, sym, ap, ◌∙◌, rules, take}
use Rattle.std.specs.Prelude.{codes}
use Rattle.pth_outside.specs.Keys.{keys_of, first_too_long, AreTooMany}
use Rattle.pth_top.proofs.Listed.{of_file, list_in-read, list_in-too_long, list_in-too_many}
use Rattle.pth_top.proofs.lists.read_list.Goals as goal

pub returns-in-Ok-clause-done : goal.returns-in-Ok-clause-done
returns-in-Ok-clause-done g c =
    of_file (g.F.Files.state c.args.files.now).told c.args.name.now (λ bytes. c.in-Ok.keys ≡ keys_of bytes) _
    (λ bytes are. list_in-read (codes "keys") c.args.most c.in-Ok.keys bytes are c.in-Ok.ensures.bound c.in-Ok.ensures.short)
    c.in-Ok.ensures.ok

pub returns-in_ok-too_long_answer-in-Err-TooLong-clause-done : goal.returns-in_ok-too_long_answer-in-Err-TooLong-clause-done
returns-in_ok-too_long_answer-in-Err-TooLong-clause-done g c =
    of_file (g.F.Files.state c.args.files.now).told c.args.name.now
    (λ bytes. first_too_long (take c.args.most (keys_of bytes)) ≡ Some c.in-Err-TooLong.line) _
    (λ bytes long. list_in-too_long (codes "keys") c.args.most c.in-Err-TooLong.line bytes long
    ∙ ap Err (sym c.in_ok-too_long_answer-in-Err-TooLong.ensures))
    (search rules)

pub returns-in_ok-too_many_answer-in-Err-TooMany-clause-done : goal.returns-in_ok-too_many_answer-in-Err-TooMany-clause-done
returns-in_ok-too_many_answer-in-Err-TooMany-clause-done g c =
    of_file (g.F.Files.state c.args.files.now).told c.args.name.now (λ bytes. AreTooMany c.args.most (keys_of bytes)) _
    (λ bytes many. list_in-too_many (codes "keys") c.args.most bytes many ∙ ap Err (sym c.in_ok-too_many_answer-in-Err-TooMany.ensures))
    (search rules)
