use Rattle.std.proofs.Common.{◌+◌, ◌-◌, length}
use Rattle.pth_outside.specs.declared.TheConstants.{LONGEST_KEY}
use Rattle.pth_outside.proofs.ReadingLemmas.{SearchesOn}
use Rattle.pth_outside.proofs.line_reader.LineReader.find_line.Given as goal

abbrev pub invariant-loop-len : goal.invariant-loop-len
invariant-loop-len g l =
    SearchesOn l.fn.self l.self (g.F.Files.state l.fn.files) (g.F.Files.state l.files)

abbrev pub decreases-loop-len : goal.decreases-loop-len
decreases-loop-len g l = LONGEST_KEY + 1 - length l.self.ahead
