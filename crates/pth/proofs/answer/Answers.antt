use Rattle.command_words.specs.Words.{fault_at}
use Rattle.command_words.specs.declared.kinds.TheConstants.{COMMAND}
use Rattle.pth.proofs.NoText.{of_any, no_command, is_refused}
use Rattle.pth.proofs.answer.Goals as goal

pub returns-in-Err-2-clause-no_text : goal.returns-in-Err-2-clause-no_text
returns-in-Err-2-clause-no_text g c = of_any c.args.args _
    (λ _ _ known. c.run-in-Err-2.ensures.refused (fault_at 0 COMMAND) (no_command c.new.result c.new.ensures.bytes) known)

pub returns-in-Err-2-clause-no_call : goal.returns-in-Err-2-clause-no_call
returns-in-Err-2-clause-no_call g c = λ _. c.run-in-Err-2.ensures.no_call (is_refused c.new.result c.new.ensures.bytes)
