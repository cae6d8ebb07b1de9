use Rattle.std.specs.Prelude.{ℕ, List, ◌∷◌, length, Ok, Err}
use Rattle.std.proofs.Common.{sym, ap, subst, arith}
use Rattle.pth_outside.specs.FilesLaws.{ReadsFiles-none, ReadsFiles-ok, ReadsFiles-then}
use Rattle.pth_outside.specs.Reading.{HasLeft, lines_left}
use Rattle.key_check.proofs.Checking.{first_so_far, next_so_far, ends_at_line, ends_at_end, ends_good, ends_at_long}
use Rattle.key_check.proofs.check.check_keys.Goals as goal

pub loop-walk-init : goal.loop-walk-init
loop-walk-init g c = (
  ReadsFiles-none (g.F.Files.state c.args.files.now) (λ e. absurd e),
  c.in_ok-walk.ensures.fits,
  first_so_far c.args.index.now.index c.args.name.now (g.F.Files.state c.args.files.now).told c.in_ok-reader.reader c.in_ok-walk.walk
      c.in_ok-reader.ensures.name c.in_ok-reader.ensures.place c.in_ok-reader.ensures.ahead c.in_ok-reader.ensures.lines c.in_ok-walk.ensures.walked,
)

pub returns-in-Some-clause-ok : goal.returns-in-Some-clause-ok
returns-in-Some-clause-ok g c =
    let kept = c.loop-walk.invariant in
    let x = c.args.index.now.index in
    let told = (g.F.Files.state c.loop-walk.files).told in
    let line = c.deref.result.now in
    let got : HasLeft c.loop-walk.reader told (λ bytes. line ∷ lines_left c.next_line.new.self bytes) =
    subst (λ (l : List ℕ). HasLeft c.loop-walk.reader told (λ bytes. l ∷ lines_left c.next_line.new.self bytes)) (sym c.deref.ensures.value)
    (c.in-Ok-Got.ensures.got (ap Ok c.in-Ok-Got.field-0-is)) in
    ends_at_line x c.args.name.now line (g.F.Files.state c.args.files.now).told told c.loop-walk.reader c.next_line.new.self c.loop-walk.walk
    c.take_line.result c.in-Some.fault kept.2 kept.0.told got
    (omega (arith, c.in-Ok-Got.ensures.short, c.next_line.new.into.ok.0, ap length c.deref.ensures.value)) c.in-Ok-Got.ensures.there
    c.take_line.ensures.fault c.in-Some.is

pub loop-walk-preserved : goal.loop-walk-preserved
loop-walk-preserved g c =
    let kept = c.loop-walk.invariant in
    let x = c.args.index.now.index in
    let told = (g.F.Files.state c.loop-walk.files).told in
    let line = c.deref.result.now in
    let got : HasLeft c.loop-walk.reader told (λ bytes. line ∷ lines_left c.next_line.new.self bytes) =
    subst (λ (l : List ℕ). HasLeft c.loop-walk.reader told (λ bytes. l ∷ lines_left c.next_line.new.self bytes)) (sym c.deref.ensures.value)
    (c.in-Ok-Got.ensures.got (ap Ok c.in-Ok-Got.field-0-is)) in (
      ReadsFiles-then (λ o. ⊥) _ _ _ kept.0 (ReadsFiles-ok _ _ (λ e. absurd e) c.in-Ok-Got.ensures.leaves),
      c.take_line.ensures.fits,
      next_so_far x c.args.name.now line (g.F.Files.state c.args.files.now).told told c.loop-walk.reader c.next_line.new.self c.loop-walk.walk
          c.take_line.new.self c.take_line.result kept.2 kept.0.told c.in-Ok-Got.ensures.name
          (c.in-Ok-Got.ensures.counted (ap Ok c.in-Ok-Got.field-0-is)) c.in-Ok-Got.ensures.step got
          (omega (arith, c.in-Ok-Got.ensures.short, c.next_line.new.into.ok.0, ap length c.deref.ensures.value)) c.in-Ok-Got.ensures.there
          c.take_line.ensures.below c.take_line.ensures.fault c.take_line.ensures.walked c.in_default.is,
    )

pub returns-in-Ok-End-clause-ok : goal.returns-in-Ok-End-clause-ok
returns-in-Ok-End-clause-ok g c =
    let kept = c.loop-walk.invariant in
    ends_at_end c.args.index.now.index c.args.name.now (g.F.Files.state c.args.files.now).told (g.F.Files.state c.loop-walk.files).told
    c.loop-walk.reader c.loop-walk.walk c.end.result kept.2 kept.0.told
    (c.in-Ok-End.ensures.end (ap Ok c.in-Ok-End.field-0-is)) c.in-Ok-End.ensures.there c.end.ensures

pub returns-in-Ok-End-clause-good : goal.returns-in-Ok-End-clause-good
returns-in-Ok-End-clause-good g c mark is =
    let kept = c.loop-walk.invariant in
    ends_good c.args.index.now.index c.args.name.now (g.F.Files.state c.args.files.now).told (g.F.Files.state c.loop-walk.files).told
    c.loop-walk.reader c.loop-walk.walk c.end.result mark kept.2 kept.0.told
    (c.in-Ok-End.ensures.end (ap Ok c.in-Ok-End.field-0-is)) c.in-Ok-End.ensures.there kept.1 c.end.ensures cc

pub returns-in-Err-TooLong-clause-ok : goal.returns-in-Err-TooLong-clause-ok
returns-in-Err-TooLong-clause-ok g c =
    let kept = c.loop-walk.invariant in
    ends_at_long c.args.index.now.index c.args.name.now (g.F.Files.state c.args.files.now).told (g.F.Files.state c.loop-walk.files).told
    c.loop-walk.reader c.next_line.new.self c.loop-walk.walk c.in-Err-TooLong.line kept.2 kept.0.told
    (c.in-Err-TooLong.ensures.too_long c.in-Err-TooLong.line (ap Err c.in-Err-TooLong.field-0-is))
