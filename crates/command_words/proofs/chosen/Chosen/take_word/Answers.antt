use Rattle.std.proofs.Common.{lit<}
use Rattle.command_words.specs.Settings.{chosen_values}
use Rattle.command_words.proofs.Cuts.{no_cut, one_cut}
use Rattle.command_words.proofs.SettingWords.{with_word-uncut, with_word-unnamed, with_word-named}
use Rattle.command_words.proofs.chosen.Chosen.take_word.Goals as goal

pub returns-in_default : goal.returns-in_default
returns-in_default c =
    with_word-uncut c.args.word.now _ (no_cut 61 c.args.word.now c.split_once.result c.split_once.ensures.cases (lit< tt) c.in_default.is)

pub returns-in_default-setting_named : goal.returns-in_default-setting_named
returns-in_default-setting_named c =
    let cut = one_cut 61 c.args.word.now c.split_once.result c.split_once.ensures.cases (lit< tt) c.in-Some.name c.in-Some.text c.in-Some.is in
    with_word-unnamed c.args.word.now _ _ _ cut c.in_default-setting_named.ensures

pub returns : goal.returns
returns c =
    let cut = one_cut 61 c.args.word.now c.split_once.result c.split_once.ensures.cases (lit< tt) c.in-Some.name c.in-Some.text c.in-Some.is in
    let same = with_word-named c.args.word.now _ _ c.in-Some-setting_named.setting (chosen_values c.args.self.now) cut c.in-Some-setting_named.ensures in
    rw (← same) c.take.ensures
