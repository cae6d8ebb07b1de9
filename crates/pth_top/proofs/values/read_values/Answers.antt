use Rattle.std.proofs.Common.{◌≡◌, ◌∙◌, ap, sym, arith, ℕ, Ok, Err}
use Rattle.pthash.specs.declared.TheConstants.{MAX_KEYS}
use Rattle.build_outcome.specs.Values.{value_of}
use Rattle.pth_outside.specs.declared.line_reader.LineErr.TheVariants.{TooLong}
use Rattle.pth_outside.specs.FilesLaws.{ReadsFiles-ok, ReadsFiles-then, ReadsFiles-none}
use Rattle.pth_outside.proofs.KeyFileLemmas.{names_line, many_by_long, many_by_line}
use Rattle.pth_top.proofs.Lines.{values_new, values_more, values_end}
use Rattle.pth_top.proofs.values.read_values.Goals as goal

pub loop-text-init : goal.loop-text-init
loop-text-init g c = (
  ReadsFiles-none (g.F.Files.state c.args.files.now) (λ e. absurd e),
  values_new c.args.index.now.index c.args.name.now (g.F.Files.state c.args.files.now).told c.in_ok-reader.reader _
      c.in_ok-reader.ensures.name c.in_ok-reader.ensures.place c.in_ok-reader.ensures.ahead c.in_ok-reader.ensures.lines c.new-text.ensures.bytes,
  omega arith,
)

pub returns-in-Ok-End-clause-ok : goal.returns-in-Ok-End-clause-ok
returns-in-Ok-End-clause-ok g c =
    let kept = c.loop-text.invariant in
    values_end c.args.index.now c.args.name.now (g.F.Files.state c.args.files.now).told (g.F.Files.state c.loop-text.files).told
    c.loop-text.reader _ c.loop-text.count kept.1 kept.0.told kept.2
    (c.in-Ok-End.ensures.end (ap Ok c.in-Ok-End.field-0-is)) c.in-Ok-End.ensures.there

pub returns-then-full-clause-too_many : goal.returns-then-full-clause-too_many
returns-then-full-clause-too_many g c is =
    let kept = c.loop-text.invariant in
    many_by_line c.args.name.now c.next_line.new.into.items (g.F.Files.state c.args.files.now).told (g.F.Files.state c.loop-text.files).told
    c.loop-text.reader c.next_line.new.self kept.1.queries MAX_KEYS
    kept.1.read kept.0.told (sym kept.1.counted ∙ c.if-full.true) (c.in-Ok-Got.ensures.got (ap Ok c.in-Ok-Got.field-0-is)) c.in-Ok-Got.ensures.there

pub loop-text-preserved : goal.loop-text-preserved
loop-text-preserved g c =
    let kept = c.loop-text.invariant in
    let x = c.args.index.now.index in (
      ReadsFiles-then (λ o. ⊥) _ _ _ kept.0 (ReadsFiles-ok _ _ (λ e. absurd e) c.in-Ok-Got.ensures.leaves),
      values_more x c.args.name.now c.next_line.new.into.items (g.F.Files.state c.args.files.now).told (g.F.Files.state c.loop-text.files).told
          c.loop-text.reader c.next_line.new.self _ _ c.loop-text.count c.lookup.result
          kept.1 kept.0.told c.in-Ok-Got.ensures.name (c.in-Ok-Got.ensures.counted (ap Ok c.in-Ok-Got.field-0-is)) c.in-Ok-Got.ensures.step
          (c.in-Ok-Got.ensures.got (ap Ok c.in-Ok-Got.field-0-is)) (omega (arith, c.in-Ok-Got.ensures.short, c.next_line.new.into.ok.0))
          c.in-Ok-Got.ensures.there (c.lookup.ensures.value ∙ ap (value_of x) c.deref.ensures.value) c.in_ok-push_value-in-Ok-Got.ensures,
      omega (arith, c.if-full.false, kept.2),
    )

pub returns-then-full-2-clause-too_many : goal.returns-then-full-2-clause-too_many
returns-then-full-2-clause-too_many g c is =
    let kept = c.loop-text.invariant in
    many_by_long c.args.name.now (g.F.Files.state c.args.files.now).told (g.F.Files.state c.loop-text.files).told
    c.loop-text.reader c.next_line.new.self kept.1.queries MAX_KEYS c.in-Err-TooLong.line
    kept.1.read kept.0.told (sym kept.1.counted ∙ c.if-full-2.true)
    (c.in-Err-TooLong.ensures.too_long c.in-Err-TooLong.line (ap Err c.in-Err-TooLong.field-0-is))

pub returns-in-Err-TooLong-clause-too_long : goal.returns-in-Err-TooLong-clause-too_long
returns-in-Err-TooLong-clause-too_long g c line is =
    let kept = c.loop-text.invariant in
    let number : c.in-Err-TooLong.line ≡ line = cc in
    names_line c.args.name.now (g.F.Files.state c.args.files.now).told (g.F.Files.state c.loop-text.files).told
    c.loop-text.reader c.next_line.new.self kept.1.queries MAX_KEYS line
    kept.1.read kept.0.told (omega (arith, kept.1.counted, c.if-full-2.false, kept.2))
    (c.in-Err-TooLong.ensures.too_long line (ap Err c.in-Err-TooLong.field-0-is ∙ ap (λ (n : ℕ). Err (TooLong n)) number))
