use Rattle.std.proofs.Common.{◌∙◌, ◌≡◌, ap, sym, arith, length, ◌∷◌, [], ℕ, Err, length-append}
use Rattle.pth_outside.specs.declared.line_reader.LineErr.TheVariants.{TooLong}
use Rattle.pth_outside.specs.FilesLaws.{ReadsFiles-ok, ReadsFiles-then, ReadsFiles-none}
use Rattle.pth_outside.proofs.KeyFileLemmas.{no_long, so_far_new, so_far_found, names_line, many_by_long, many_by_found}
use Rattle.pth_outside.proofs.key_file.read_keys.Goals as goal

pub loop-keys-init : goal.loop-keys-init
loop-keys-init g c = (
  ReadsFiles-none (g.F.Files.state c.args.files.now) (λ e. absurd e),
  so_far_new c.args.name.now (g.F.Files.state c.args.files.now).told c.in_ok-reader.reader c.new-keys.result
      c.in_ok-reader.ensures.name c.in_ok-reader.ensures.place c.in_ok-reader.ensures.ahead c.in_ok-reader.ensures.lines c.new-keys.ensures,
  omega (arith, ap length c.new-keys.ensures),
)

pub returns-then-full-clause-too_many : goal.returns-then-full-clause-too_many
returns-then-full-clause-too_many g c is =
    let kept = c.loop-keys.invariant in
    let found = c.in-Ok-Some.ensures in
    many_by_found c.args.name.now (g.F.Files.state c.args.files.now).told (g.F.Files.state c.loop-keys.files).told
    c.loop-keys.reader c.find_line.new.self c.loop-keys.keys c.args.most c.in-Ok-Some.span.len c.in-Ok-Some.span.whole
    kept.1 kept.0.told (sym c.len.ensures ∙ c.if-full.true) found.at found.step (rw c.in-Ok-Some.field-0-is at found.line) found.there

pub loop-keys-preserved : goal.loop-keys-preserved
loop-keys-preserved g c =
    let kept = c.loop-keys.invariant in
    let found = c.in-Ok-Some.ensures in
    let pushed = c.in_ok-push-in-Ok-Some.ensures.ok in (
      ReadsFiles-then (λ o. ⊥) _ _ _ kept.0 (ReadsFiles-ok _ _ (λ e. absurd e) found.leaves),
      so_far_found c.args.name.now c.line.result.now (g.F.Files.state c.args.files.now).told (g.F.Files.state c.loop-keys.files).told
          c.loop-keys.reader c.find_line.new.self c.pass.new.self c.loop-keys.keys c.push.new.self c.in-Ok-Some.span.len
          c.in-Ok-Some.span.whole kept.1 kept.0.told found.at found.step (rw c.in-Ok-Some.field-0-is at found.line)
          c.pass.ensures c.line.ensures pushed found.there,
      omega (arith, ap length pushed, length-append c.loop-keys.keys (c.line.result.now ∷ []), c.len.ensures, c.if-full.false, kept.2),
    )

pub returns-then-full-2-clause-too_many : goal.returns-then-full-2-clause-too_many
returns-then-full-2-clause-too_many g c is =
    let kept = c.loop-keys.invariant in
    many_by_long c.args.name.now (g.F.Files.state c.args.files.now).told (g.F.Files.state c.loop-keys.files).told
    c.loop-keys.reader c.find_line.new.self c.loop-keys.keys c.args.most c.in-Err-TooLong.line
    kept.1 kept.0.told (sym c.len.ensures ∙ c.if-full-2.true) (c.in-Err-TooLong.ensures.too_long c.in-Err-TooLong.line (ap Err c.in-Err-TooLong.field-0-is))

pub returns-in-Err-TooLong-clause-too_long : goal.returns-in-Err-TooLong-clause-too_long
returns-in-Err-TooLong-clause-too_long g c line is =
    let kept = c.loop-keys.invariant in
    let number : c.in-Err-TooLong.line ≡ line = cc in
    names_line c.args.name.now (g.F.Files.state c.args.files.now).told (g.F.Files.state c.loop-keys.files).told
    c.loop-keys.reader c.find_line.new.self c.loop-keys.keys c.args.most line
    kept.1 kept.0.told (omega (arith, c.len.ensures, c.if-full-2.false, kept.2))
    (c.in-Err-TooLong.ensures.too_long line (ap Err c.in-Err-TooLong.field-0-is ∙ ap (λ (n : ℕ). Err (TooLong n)) number))

pub returns-in-Ok-None-clause-short : goal.returns-in-Ok-None-clause-short
returns-in-Ok-None-clause-short g c = no_long 1 c.loop-keys.keys c.loop-keys.invariant.1.short
