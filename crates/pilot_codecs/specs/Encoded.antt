-- A list with the encoding that it is kept in, and where its spelling stands.
use Rattle.std.specs.Prelude.{ℕ, ◌≡◌, ◌+◌, ◌^◌, ◌≤◌, List, ◌++◌, length, take, drop, Option, Some, None, Result}
use Rattle.pthash.specs.Sizes.{front_count_of}
use Rattle.elias_fano.specs.declared.fault.FormFault.{FormFault}
use Rattle.pilot_codecs.specs.declared.code.Code.{Code}
use Rattle.pilot_codecs.specs.declared.code.Encoding.{Encoding}
use Rattle.pilot_codecs.specs.declared.part.Part.{Part}
use Rattle.pilot_codecs.specs.Spelling.{Fits, pair_text}
use Rattle.pilot_codecs.specs.Reading.{split_at}
use Rattle.pilot_codecs.specs.Values.{values_of, code_of}

-- a list and its encoding
pub record Encoded : Type 0 where
  pub enc : Encoding
  pub values : List ℕ

-- what a front part and a back part are seen as
abbrev pub encoded_of : Part → Option Part → Encoded
encoded_of front None = record { enc = record { front = code_of front; back = None }; values = values_of front }
encoded_of front (Some back) = record { enc = record { front = code_of front; back = Some (code_of back) }; values = values_of front ++ values_of back }

-- the front part has its share of the values, and there are few enough
abbrev pub IsSplit : Part → Option Part → Type 0
IsSplit front None = length (values_of front) ≤ 2 ^ 30
IsSplit front (Some back) = (length (values_of front) ≡ front_count_of (length (values_of front ++ values_of back)))
    × (length (values_of front ++ values_of back) ≤ 2 ^ 30)

-- each part has a spelling under its code
abbrev pub FitSplit : Code → Option Code → List ℕ → Type 0
FitSplit front None vs = Fits front vs
FitSplit front (Some back) vs = Fits front (take (front_count_of (length vs)) vs) × Fits back (drop (front_count_of (length vs)) vs)

-- a list that has a spelling under its encoding
abbrev pub HasText : Encoded → Type 0
HasText e = FitSplit e.enc.front e.enc.back e.values

-- the parts are those of a list that has a spelling
pub record ArePilots (front : Part) (back : Option Part) : Type 0 where
  pub split : IsSplit front back
  pub fit : HasText (encoded_of front back)

-- how many values the front part has
abbrev pub front_len : Option Code → ℕ → ℕ
front_len None count = count
front_len (Some back) count = front_count_of count

-- the list of that count under an encoding, and the bytes after it
abbrev pub pair_at : Encoding → ℕ → ℕ → List ℕ → Result (List ℕ × List ℕ) FormFault
pair_at enc at count bytes = split_at enc.front enc.back at count bytes

-- the spelling of a list of that count stands in the bytes from one place to the other
pub record IsSpelled (bytes : List ℕ) (at count : ℕ) (enc : Encoding) (vs : List ℕ) (next : ℕ) : Type 0 where
  pub fit : FitSplit enc.front enc.back vs
  pub count_is : length vs ≡ count
  pub next_is : next ≡ at + length (pair_text enc vs)
  pub text : drop at bytes ≡ pair_text enc vs ++ drop next bytes
