-- What the values of settings stand for.
use Rattle.std.specs.Prelude.{◌≡◌, ◌<◌, ◌≤◌, slice_index, ◌==◌, ℕ, ◌^◌, ◌&&◌, List, [], ◌∷◌, length, codes, bytes_eq, decimal, nat_le}
use Rattle.std.specs.Prelude.{nat_lt, if◌then◌else◌, Option, Some, None, Result, Ok, Err, ok_or, option_map, option_and_then}
use Rattle.std.specs.List.{slice_split, before_first, after_first, position_or_len}
use Rattle.std.specs.Str.Parse.{digits_value}
use Rattle.pthash.specs.declared.Map.{Map}
use Rattle.pthash.specs.declared.Map.TheVariants.{Skewed, Uniform}
use Rattle.pilot_codecs.specs.declared.code.Code.{Code}
use Rattle.pilot_codecs.specs.declared.code.Code.TheVariants.{Compact, Parted, Dict, EliasFano}
use Rattle.pilot_codecs.specs.declared.code.Encoding.{Encoding}
use Rattle.settings.specs.declared.settings.TheConstants.{MAX_SEEDS}
use Rattle.command_words.specs.declared.kinds.TheConstants.{NUMBER, RANGE}
use Rattle.command_words.specs.declared.number.TheConstants.{COMMA}
use Rattle.command_words.specs.declared.values.TheConstants.{DASH}
use Rattle.command_words.specs.declared.values.Search.{Search}
use Rattle.command_words.specs.declared.values.Search.TheVariants.{Turns, Rounds}

-- the number that a text spells: it is below 2 ^ 64, and the text is just its decimal digits
unfoldable pub number_of : List ℕ → Option ℕ
number_of text = let n = digits_value 10 text in
    if nat_lt n (2 ^ 64) && bytes_eq text (decimal n) then Some n else None

-- a text begins with a digit, and with 0 only where nothing follows
pub record IsPlain (text : List ℕ) : Type 0 where
  pub some_byte : 0 < length text
  pub digit_low : 48 ≤ slice_index text 0
  pub digit_high : slice_index text 0 ≤ 57
  pub no_leading_zero : slice_index text 0 ≡ 48 → length text ≡ 1

-- the number, if it is one from low to high
abbrev pub between : ℕ → ℕ → Option ℕ → Result ℕ ℕ
between low high None = Err NUMBER
between low high (Some n) = if nat_le low n && nat_le n high then Ok n else Err RANGE

-- a number from low to high, as a text spells it
unfoldable pub number_in : ℕ → ℕ → List ℕ → Result ℕ ℕ
number_in low high text = between low high (number_of text)

-- the numbers that texts spell, where each spells one
unfoldable pub numbers_of : List (List ℕ) → Option (List ℕ)
numbers_of [] = Some []
numbers_of (text ∷ texts) = option_and_then (λ n. option_map (λ ns. n ∷ ns) (numbers_of texts)) (number_of text)

-- the seeds, if they are numbers and not too many
abbrev pub few_seeds : Option (List ℕ) → Result (List ℕ) ℕ
few_seeds None = Err NUMBER
few_seeds (Some seeds) = if nat_le (length seeds) MAX_SEEDS then Ok seeds else Err RANGE

-- seeds, as a text lists them between commas
unfoldable pub seeds_in : List ℕ → Result (List ℕ) ℕ
seeds_in text = few_seeds (numbers_of (slice_split (λ b. b == COMMA) text))

-- the kind of search that a text names
abbrev pub search_in : List ℕ → Result Search ℕ
search_in text = if bytes_eq text (codes "turns") then Ok Turns
    else if bytes_eq text (codes "rounds") then Ok Rounds
    else Err RANGE

-- the map that a text names
abbrev pub map_in : List ℕ → Result Map ℕ
map_in text = if bytes_eq text (codes "skewed") then Ok Skewed
    else if bytes_eq text (codes "uniform") then Ok Uniform
    else Err RANGE

-- the code that a text names
abbrev pub code_of : List ℕ → Option Code
code_of text = if bytes_eq text (codes "c") then Some Compact
    else if bytes_eq text (codes "pc") then Some Parted
    else if bytes_eq text (codes "d") then Some Dict
    else if bytes_eq text (codes "ef") then Some EliasFano
    else None

-- what stands before and after the first such byte of a text, if it has one
unfoldable pub cut_at : ℕ → List ℕ → Option (List ℕ × List ℕ)
cut_at c text = if nat_lt (position_or_len (λ b. b == c) text) (length text)
    then Some (before_first (λ b. b == c) text, after_first (λ b. b == c) text)
    else None

-- one code for all pilots
abbrev pub one_code : Code → Encoding
one_code front = record { front = front; back = None }

-- a code for the front buckets and one for the back buckets
abbrev pub two_codes : Code → Code → Encoding
two_codes front back = record { front = front; back = Some back }

-- the encoding that a text names, cut at its first dash if it has one
abbrev pub encoding_of : List ℕ → Option (List ℕ × List ℕ) → Option Encoding
encoding_of text None = option_map one_code (code_of text)
encoding_of text (Some parts) =
    option_and_then (λ front. option_map (two_codes front) (code_of parts.1)) (code_of parts.0)

-- the encoding that a text names: one code, or two joined by a dash
unfoldable pub encoding_in : List ℕ → Result Encoding ℕ
encoding_in text = ok_or (encoding_of text (cut_at DASH text)) RANGE
