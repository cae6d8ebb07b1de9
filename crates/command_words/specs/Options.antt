-- The settings of a command as plain data.
use Rattle.std.specs.Prelude.{◌≤◌, ℕ, List, map, string_bytes, String}
use Rattle.std.specs.declared.alloc.Global.{Global}
use Rattle.pthash.specs.declared.TheConstants.{MAX_KEYS}
use Rattle.pilot_codecs.specs.declared.code.Encoding.{Encoding}
use Rattle.settings.specs.declared.settings.TheConstants.{MAX_BLOCKS}
use Rattle.settings.specs.Settings.{SettingsData, AreInRange, settings_data}
use Rattle.command_words.specs.declared.options.Options.{Options}

-- the words, each as its bytes
abbrev pub words_of : List (String Global) → List (List ℕ)
words_of words = map string_bytes words

-- the settings of a build, how its pilots are kept, the blocks of memory, the most keys
pub record OptionsData : Type 0 where
  pub settings : SettingsData
  pub enc : Encoding
  pub blocks : ℕ
  pub most : ℕ

-- each setting is in its range
pub record IsInRange (o : OptionsData) : Type 0 where
  pub settings : AreInRange o.settings
  pub few_blocks : o.blocks ≤ MAX_BLOCKS
  pub some_key : 1 ≤ o.most
  pub few_keys : o.most ≤ MAX_KEYS

-- options as data
abbrev pub options_data : Options → OptionsData
options_data o = record { settings = settings_data o.settings; enc = o.enc; blocks = o.blocks; most = o.most }
