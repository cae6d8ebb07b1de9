use Rattle.std.proofs.Common.{arith, ap, ◌∙◌, ◌+◌, ◌≤◌, ◌-◌, ℕ, List, length, take, drop, subst, sym, length-take}
use Rattle.pth_outside.specs.Reading.{Reader, advanced}
use Rattle.pth_outside.proofs.ReadingLemmas.{ahead_behind}
use Rattle.pth_outside.proofs.line_reader.LineReader.pass.Goals as goal

pub returns : goal.returns
returns c =
    let inside = c.self.inside in
    let within : c.args.span.whole ≤ length (take (inside.end - inside.start) (drop inside.start inside.buffer.items)) =
    subst (λ (r : Reader). c.args.span.whole ≤ length r.ahead) (sym c.self.view_is) c.requires.within in
    let fits : inside.start + c.args.span.whole ≤ inside.end = omega (
      arith,
      within,
      c.self.invariant.rises,
      length-take (inside.end - inside.start) (drop inside.start inside.buffer.items),
    ) in
    ap (λ (a : List ℕ). let r : Reader = record {
      name = inside.name.bytes.items;
      place = inside.place + c.args.span.whole;
      ahead = a;
      lines = inside.lines + 1;
    } in r) (ahead_behind inside.buffer.items inside.start inside.end c.args.span.whole fits)
    ∙ ap (advanced c.args.span.whole) c.self.view_is
