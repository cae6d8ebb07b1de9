use Rattle.std.proofs.Common.{arith, ap, ◌∙◌, ◌++◌, ℕ, List, take}
use Rattle.pth_outside.proofs.ReadingLemmas.{both, written_behind}
use Rattle.pth_outside.proofs.line_reader.ahead.read_behind.Goals as goal

pub returns-clause-read : goal.returns-clause-read
returns-clause-read g c =
    both c.read_at.result _ _ _ c.read_at.ensures.bound c.read_at.ensures.read (λ count bound read bytes is.
    written_behind c.args.end count c.args.buffer.now c.read_at.new.into _ c.requires (omega (arith, bound, c.read_at.auto.into))
    ∙ ap (λ (x : List ℕ). take c.args.end c.args.buffer.now ++ x) (read bytes is).front)
