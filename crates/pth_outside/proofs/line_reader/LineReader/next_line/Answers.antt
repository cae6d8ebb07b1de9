use Rattle.std.proofs.Common.{sym, subst}
use Rattle.pth_outside.specs.Reading.{Reader, IsInStep}
use Rattle.pth_outside.proofs.ReadingLemmas.{step_advanced}
use Rattle.pth_outside.proofs.line_reader.LineReader.next_line.Goals as goal

pub returns-in_ok-extend_from_slice-in-Some-clause-step : goal.returns-in_ok-extend_from_slice-in-Some-clause-step
returns-in_ok-extend_from_slice-in-Some-clause-step g c start =
    let told = (g.F.Files.state c.args.files.now).told in
    let next = rw c.in-Some.is at c.in_ok-span.ensures.line in
    subst (λ (r : Reader). IsInStep r told) (sym c.pass.ensures)
    (step_advanced c.find_line.new.self told c.in-Some.span.whole next.within (c.in_ok-span.ensures.step start))
