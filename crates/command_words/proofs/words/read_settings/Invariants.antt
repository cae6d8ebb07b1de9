use Rattle.std.proofs.Common.{◌≡◌, ◌+◌, drop}
use Rattle.command_words.specs.Options.{words_of}
use Rattle.command_words.specs.Settings.{chosen_values, nothing_given}
use Rattle.command_words.specs.Words.{given_by}
use Rattle.command_words.proofs.words.read_settings.Given as goal

abbrev pub invariant-loop-i : goal.invariant-loop-i
invariant-loop-i l =
    given_by (words_of (drop l.i l.words)) (l.first + l.i) (chosen_values l.chosen) ≡ given_by (words_of l.words) l.first nothing_given
