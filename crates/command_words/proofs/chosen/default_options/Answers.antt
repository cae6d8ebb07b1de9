use Rattle.std.proofs.Common.{sym, subst}
use Rattle.command_words.specs.Options.{IsInRange}
use Rattle.command_words.specs.Settings.{options_of}
use Rattle.command_words.proofs.Ranges.{defaults_in_range}
use Rattle.command_words.proofs.chosen.default_options.Goals as goal

pub options-requires : goal.options-requires
options-requires c = subst (λ g. IsInRange (options_of g)) (sym c.new.ensures) defaults_in_range
