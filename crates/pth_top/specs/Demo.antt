-- What `demo` gives.
use Rattle.std.specs.Prelude.{ℕ, List, ◌++◌, codes, decimal, map}
use Rattle.std.specs.List.{flat_map}
use Rattle.build_outcome.specs.Index.{IndexData}
use Rattle.command_words.specs.Options.{OptionsData}
use Rattle.command_words.specs.Settings.{nothing_given, options_of}
use Rattle.demo_index.specs.declared.trial.Tried.{Tried}
use Rattle.demo_index.specs.Encodings.{all_encodings}
use Rattle.demo_index.specs.Keys.{demo_keys_of}
use Rattle.demo_index.specs.Trials.{tried_of}
use Rattle.pth_top.specs.Done.{Done, said}
use Rattle.pth_top.specs.Lists.{gives, index_for}
use Rattle.pth_top.specs.Texts.{encoding_name, line}

-- the settings by default
abbrev pub default_settings : OptionsData
default_settings = options_of nothing_given

-- how many keys an index has, and its seed
unfoldable pub keys_line : ℕ → ℕ → List ℕ
keys_line keys seed = line (codes "keys " ++ decimal keys ++ codes " seed " ++ decimal seed)

-- an encoding, the length of the index in it, and the sum of the values of the keys
unfoldable pub tried_line : Tried → List ℕ
tried_line tried =
    line (encoding_name tried.enc ++ codes " bytes " ++ decimal tried.bytes ++ codes " sum " ++ decimal tried.sum)

-- the lines of encodings
abbrev pub tried_lines : List Tried → List ℕ
tried_lines all = flat_map tried_line all

-- what an index of keys gives, under each encoding
abbrev pub demo_of_index : List (List ℕ) → IndexData → Done
demo_of_index keys x = said 0 (keys_line x.n x.seed ++ tried_lines (map (tried_of x keys) all_encodings))

-- what keys give
abbrev pub demo_of_keys : List (List ℕ) → Done
demo_of_keys keys = gives (index_for default_settings keys) (demo_of_index keys)

-- what as many generated keys at a seed give
abbrev pub demo_result : ℕ → ℕ → Done
demo_result count seed = demo_of_keys (demo_keys_of count seed)
