use Rattle.std.proofs.Common.{◌≢◌, Result, IfErr, subst}
use Rattle.build_outcome.specs.Index.{IndexData}
use Rattle.pth_top.specs.declared.answer.Answer.{Answer}
use Rattle.pth_top.proofs.build.build.Goals as goal

pub returns-in-Err-clause-index : goal.returns-in-Err-clause-index
returns-in-Err-clause-index g c = λ zero.
    absurd (subst (λ (end : Result IndexData Answer). IfErr end (λ answer. answer.status ≢ 0)) c.in-Err.is c.in_ok-built.ensures.refused zero)
