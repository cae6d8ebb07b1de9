-- The settings: their names, their values and their defaults.
use Rattle.std.specs.Prelude.{ℕ, List, codes, bytes_eq, if◌then◌else◌, Option, Some, None, Result, Ok, Err, option_map, unwrap_or, vec_items}
use Rattle.pthash.specs.declared.TheConstants.{MIN_ALPHA, MAX_ALPHA, MIN_C, MAX_C, MAX_KEYS, MAX_PARTITIONS, MAX_PILOTS}
use Rattle.pthash.specs.declared.Map.{Map}
use Rattle.pilot_codecs.specs.declared.code.Encoding.{Encoding}
use Rattle.settings.specs.declared.how.How.{How}
use Rattle.settings.specs.declared.how.How.TheVariants as how
use Rattle.settings.specs.declared.settings.TheConstants as limits
use Rattle.command_words.specs.declared.kinds.TheConstants.{NAME, REPEATED}
use Rattle.command_words.specs.declared.chosen.TheConstants.{EQUALS, DEFAULT_SEARCH}
use Rattle.command_words.specs.declared.chosen.Chosen.{Chosen}
use Rattle.command_words.specs.declared.chosen.Setting.{Setting}
use Rattle.command_words.specs.declared.chosen.Setting.TheVariants as setting
use Rattle.command_words.specs.declared.values.Search as search
use Rattle.command_words.specs.declared.values.Search.TheVariants.{Turns, Rounds}
use Rattle.command_words.specs.Options.{OptionsData}
use Rattle.command_words.specs.Values.{number_in, seeds_in, map_in, search_in, encoding_in, cut_at}

-- the setting of a name
abbrev pub setting_of : List ℕ → Option Setting
setting_of name = if bytes_eq name (codes "seeds") then Some setting.Seeds
    else if bytes_eq name (codes "alpha") then Some setting.Alpha
    else if bytes_eq name (codes "c") then Some setting.C
    else if bytes_eq name (codes "map") then Some setting.Map
    else if bytes_eq name (codes "parts") then Some setting.Parts
    else if bytes_eq name (codes "workers") then Some setting.Workers
    else if bytes_eq name (codes "search") then Some setting.Search
    else if bytes_eq name (codes "enc") then Some setting.Enc
    else if bytes_eq name (codes "pilots") then Some setting.Pilots
    else if bytes_eq name (codes "blocks") then Some setting.Blocks
    else if bytes_eq name (codes "limit") then Some setting.Limit
    else None

-- the values that words give, of each setting at most one
pub record Given : Type 0 where
  pub seeds : Option (List ℕ)
  pub alpha : Option ℕ
  pub c : Option ℕ
  pub map : Option Map
  pub parts : Option ℕ
  pub workers : Option ℕ
  pub search : Option search.Search
  pub enc : Option Encoding
  pub pilots : Option ℕ
  pub blocks : Option ℕ
  pub limit : Option ℕ

-- no values
abbrev pub nothing_given : Given
nothing_given = record {
  seeds = None;
  alpha = None;
  c = None;
  map = None;
  parts = None;
  workers = None;
  search = None;
  enc = None;
  pilots = None;
  blocks = None;
  limit = None;
}

-- the values that the code has so far, as data
abbrev pub chosen_values : Chosen → Given
chosen_values chosen = record {
  seeds = option_map vec_items chosen.seeds;
  alpha = chosen.alpha;
  c = chosen.c;
  map = chosen.map;
  parts = chosen.parts;
  workers = chosen.workers;
  search = chosen.search;
  enc = chosen.enc;
  pilots = chosen.pilots;
  blocks = chosen.blocks;
  limit = chosen.limit;
}

-- what a value makes of the values so far, if none is given for its setting yet
abbrev pub put : {A : Type 0} → Option A → Result A ℕ → (Option A → Given) → Result Given ℕ
put (Some _) value with_it = Err REPEATED
put None (Err kind) with_it = Err kind
put None (Ok value) with_it = Ok (with_it (Some value))

-- the values with one more: what each setting takes
abbrev pub with_value : Setting → List ℕ → Given → Result Given ℕ
with_value setting.Seeds text g = put g.seeds (seeds_in text) (λ v. record g { seeds = v })
with_value setting.Alpha text g = put g.alpha (number_in MIN_ALPHA MAX_ALPHA text) (λ v. record g { alpha = v })
with_value setting.C text g = put g.c (number_in MIN_C MAX_C text) (λ v. record g { c = v })
with_value setting.Map text g = put g.map (map_in text) (λ v. record g { map = v })
with_value setting.Parts text g = put g.parts (number_in 1 MAX_PARTITIONS text) (λ v. record g { parts = v })
with_value setting.Workers text g = put g.workers (number_in 1 limits.MAX_WORKERS text) (λ v. record g { workers = v })
with_value setting.Search text g = put g.search (search_in text) (λ v. record g { search = v })
with_value setting.Enc text g = put g.enc (encoding_in text) (λ v. record g { enc = v })
with_value setting.Pilots text g = put g.pilots (number_in 1 MAX_PILOTS text) (λ v. record g { pilots = v })
with_value setting.Blocks text g = put g.blocks (number_in 0 limits.MAX_BLOCKS text) (λ v. record g { blocks = v })
with_value setting.Limit text g = put g.limit (number_in 1 MAX_KEYS text) (λ v. record g { limit = v })

-- the values with that of a setting of this name
abbrev pub with_named : Option Setting → List ℕ → Given → Result Given ℕ
with_named None text g = Err NAME
with_named (Some setting) text g = with_value setting text g

-- the values with that of a word, cut at its first equals sign
abbrev pub with_parts : Option (List ℕ × List ℕ) → Given → Result Given ℕ
with_parts None g = Err NAME
with_parts (Some parts) g = with_named (setting_of parts.0) parts.1 g

-- the values with that of a word `name=value`
unfoldable pub with_word : List ℕ → Given → Result Given ℕ
with_word word g = with_parts (cut_at EQUALS word) g

-- how many workers search, and in which way
abbrev pub how_of : search.Search → ℕ → How
how_of Turns workers = how.Turns workers
how_of Rounds workers = how.Rounds workers

-- the settings: the values that are given, and the defaults of the others
abbrev pub options_of : Given → OptionsData
options_of g = record {
  settings = record {
    seeds = unwrap_or g.seeds limits.DEFAULT_SEEDS;
    shape = record {
      alpha = unwrap_or g.alpha limits.DEFAULT_ALPHA;
      c = unwrap_or g.c limits.DEFAULT_C;
      map = unwrap_or g.map limits.DEFAULT_MAP;
    };
    parts = unwrap_or g.parts limits.DEFAULT_PARTITIONS;
    limit = unwrap_or g.pilots limits.DEFAULT_PILOTS;
    how = how_of (unwrap_or g.search DEFAULT_SEARCH) (unwrap_or g.workers limits.DEFAULT_WORKERS);
  };
  enc = unwrap_or g.enc limits.DEFAULT_ENCODING;
  blocks = unwrap_or g.blocks limits.DEFAULT_BLOCKS;
  most = unwrap_or g.limit MAX_KEYS;
}
