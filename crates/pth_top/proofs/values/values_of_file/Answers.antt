use Rattle.std.proofs.Common.{◌≡◌, Some, Err, Result, List, ℕ, sym, ap, ◌∙◌, rules, take}
use Rattle.std.specs.Prelude.{codes}
use Rattle.pthash.specs.declared.TheConstants.{MAX_KEYS}
use Rattle.pth_outside.specs.Keys.{keys_of, first_too_long, AreTooMany}
use Rattle.pth_top.specs.Done.{Done}
use Rattle.pth_top.specs.Lists.{gives}
use Rattle.pth_top.specs.Query.{values_of}
use Rattle.pth_top.proofs.Listed.{of_file, list_in-too_long, list_in-too_many}
use Rattle.pth_top.proofs.values.values_of_file.Goals as goal

pub returns-in_ok-too_long_answer-in-Err-TooLong-clause-done : goal.returns-in_ok-too_long_answer-in-Err-TooLong-clause-done
returns-in_ok-too_long_answer-in-Err-TooLong-clause-done g c =
    of_file (g.F.Files.state c.args.files.now).told c.args.name.now
    (λ bytes. first_too_long (take MAX_KEYS (keys_of bytes)) ≡ Some c.in-Err-TooLong.line) _
    (λ bytes long. ap (λ (list : Result (List (List ℕ)) Done). gives list (values_of c.args.index.now.index))
    (list_in-too_long (codes "queries") MAX_KEYS c.in-Err-TooLong.line bytes long)
    ∙ sym c.in_ok-too_long_answer-in-Err-TooLong.ensures)
    (c.in-Err-TooLong.ensures.too_long c.in-Err-TooLong.line (ap Err c.in-Err-TooLong.field-0-is))

pub returns-in_ok-too_many_answer-in-Err-TooMany-clause-done : goal.returns-in_ok-too_many_answer-in-Err-TooMany-clause-done
returns-in_ok-too_many_answer-in-Err-TooMany-clause-done g c =
    of_file (g.F.Files.state c.args.files.now).told c.args.name.now (λ bytes. AreTooMany MAX_KEYS (keys_of bytes)) _
    (λ bytes many. ap (λ (list : Result (List (List ℕ)) Done). gives list (values_of c.args.index.now.index))
    (list_in-too_many (codes "queries") MAX_KEYS bytes many)
    ∙ sym c.in_ok-too_many_answer-in-Err-TooMany.ensures)
    (search rules)
