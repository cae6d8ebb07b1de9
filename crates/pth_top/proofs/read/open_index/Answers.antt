use Rattle.std.proofs.Common.{◌<◌, Err, sym, ap, ◌∙◌, rules, length}
use Rattle.index_text.specs.declared.head.TheConstants.{MAX_BYTES}
use Rattle.pth_top.proofs.Faults.{index_read-large}
use Rattle.pth_top.proofs.Listed.{of_file}
use Rattle.pth_top.proofs.read.open_index.Goals as goal

pub returns-in_ok-faulty_answer-in-Err-TooLarge-clause-done : goal.returns-in_ok-faulty_answer-in-Err-TooLarge-clause-done
returns-in_ok-faulty_answer-in-Err-TooLarge-clause-done g c =
    of_file (g.F.Files.state c.args.files.now).told c.args.name.now (λ bytes. MAX_BYTES < length bytes) _
    (λ bytes large. index_read-large bytes large ∙ ap Err (sym c.in_ok-faulty_answer-in-Err-TooLarge.ensures))
    (search rules)
