use Rattle.command_words.proofs.Ranges.{settings_in_range}
use Rattle.command_words.proofs.words.read_options.Goals as goal

pub options-requires : goal.options-requires
options-requires c = settings_in_range _ _ _ c.in_ok-read_settings.ensures.ok
