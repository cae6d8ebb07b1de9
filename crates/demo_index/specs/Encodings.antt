-- The encodings that are tried, in their order.
use Rattle.std.specs.Prelude.{List, [], ◌∷◌, ◌++◌, map, Some, None}
use Rattle.std.specs.List.{flat_map}
use Rattle.pilot_codecs.specs.declared.code.Code.{Code}
use Rattle.pilot_codecs.specs.declared.code.Code.TheVariants.{Compact, Parted, Dict, EliasFano}
use Rattle.pilot_codecs.specs.declared.code.Encoding.{Encoding}

-- the codes in their order
abbrev pub all_codes : List Code
all_codes = Compact ∷ Parted ∷ Dict ∷ EliasFano ∷ []

-- a code for all pilots
abbrev pub alone : Code → Encoding
alone front = record { front = front; back = None }

-- a code for the first pilots and one for the rest
abbrev pub followed_by : Code → Code → Encoding
followed_by front back = record { front = front; back = Some back }

-- each code alone, then each pair, the back code changing fastest
unfoldable pub all_encodings : List Encoding
all_encodings = map alone all_codes ++ flat_map (λ front. map (followed_by front) all_codes) all_codes
