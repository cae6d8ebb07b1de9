use Rattle.std.proofs.Common.{◌≡◌, ◌+◌, sym, subst, arith, Ok, Err}
use Rattle.command_words.specs.Refusals.{IfBad}
use Rattle.command_words.specs.Settings.{chosen_values, with_word, nothing_given}
use Rattle.command_words.specs.Options.{words_of}
use Rattle.command_words.specs.Words.{fault_at, given_by}
use Rattle.command_words.proofs.SettingWords.{given_by-next, given_by-stop, given_by-end, refused_with}
use Rattle.command_words.proofs.words.read_settings.Goals as goal

pub returns-in-Err-Kind-clause-bad : goal.returns-in-Err-Kind-clause-bad
returns-in-Err-Kind-clause-bad c =
    let refused = refused_with {T = Unit {0}} (λ _. chosen_values c.take_word.new.self) c.in-Err-Kind.field-0
    c.in-Err-Kind.kind _ c.in-Err-Kind.ensures c.in-Err-Kind.field-0-is in
    let word = subst (λ w. with_word w (chosen_values c.loop-i.chosen) ≡ Err c.in-Err-Kind.kind) c.deref.ensures refused in
    let stop = given_by-stop c.args.words.now c.loop-i.i c.args.first c.in-Err-Kind.kind c.index-words-i.result
    (chosen_values c.loop-i.chosen) _ c.loop-i-test.true c.index-words-i.is word c.loop-i.invariant in
    let same_kind = subst (λ k. given_by (words_of c.args.words.now) c.args.first nothing_given ≡ Err
    (fault_at (c.args.first + c.loop-i.i) k)) (sym c.in-Err-Kind.kind-is) stop in
    subst (IfBad (λ fault. given_by (words_of c.args.words.now) c.args.first nothing_given ≡ Err fault)) (sym c.bad.ensures) same_kind

pub loop-i-preserved : goal.loop-i-preserved
loop-i-preserved c =
    let word = subst (λ w. with_word w (chosen_values c.loop-i.chosen) ≡ Ok (chosen_values c.take_word.new.self)) c.deref.ensures c.in-Ok.ensures in
    given_by-next c.args.words.now c.loop-i.i c.args.first c.index-words-i.result (chosen_values c.loop-i.chosen)
    (chosen_values c.take_word.new.self) _ c.loop-i-test.true c.index-words-i.is word c.loop-i.invariant

pub returns-clause-ok : goal.returns-clause-ok
returns-clause-ok c =
    given_by-end c.args.words.now c.loop-i.i _ (chosen_values c.loop-i.chosen) _ (omega arith) c.loop-i.invariant
