-- Reading a spelling from the left, with the first fault that is met.
use Rattle.std.specs.Prelude.{ℕ, zero, suc, ◌≡◌, ◌+◌, ◌-◌, ◌*◌, ◌^◌, ◌≤◌, Bool, not, ◌&&◌, List, [], ◌∷◌, ◌++◌}
use Rattle.std.specs.Prelude.{length, take, drop, Result, Ok, Err}
use Rattle.std.specs.Prelude.{nat_lt, ◌==◌, if◌then◌else◌}
use Rattle.std.specs.Int.{w64, from_le_bytes}
use Rattle.bit_vector.specs.Bits.{bits_of, words_number, words_for, ones}
use Rattle.elias_fano.specs.declared.fault.FormFault.{FormFault}
use Rattle.elias_fano.specs.declared.fault.ReadErr.{ReadErr}
use Rattle.elias_fano.specs.declared.fault.ReadErr.TheVariants as errors
use Rattle.elias_fano.specs.declared.fault.TheConstants.{SHORT, PADDING, ORDER, COUNT, LAST}
use Rattle.elias_fano.specs.Spelling.{low_width, last_of, rises, high_len, ef_text, IsRising}
use Rattle.elias_fano.specs.Values.{values_of}

infixl 10 ◌>>=◌
abbrev pub ◌>>=◌ : {A B : Type 0} → Result A FormFault → (A → Result B FormFault) → Result B FormFault
(Ok x) >>= f = f x
(Err e) >>= f = Err e

-- what a function returned, seen by view, is what reading gives, unless memory ran out
abbrev pub Fails : {Y : Type 0} → ReadErr → Result Y FormFault → Type 0
Fails errors.NoMemory read = Unit {0}
Fails (errors.Form f) read = read ≡ Err f

abbrev pub Gives : {X Y : Type 0} → (X → Y) → Result X ReadErr → Result Y FormFault → Type 0
Gives view (Ok x) read = read ≡ Ok (view x)
Gives view (Err e) read = Fails e read

-- a fault of a kind at a place
abbrev pub fault : ℕ → ℕ → FormFault
fault at kind = record { at = at; kind = kind }

-- a reading ends for want of bytes
abbrev pub IsShort : {Y : Type 0} → Result Y FormFault → Type 0
IsShort read = (place : ℕ) × (read ≡ Err (fault place SHORT))

-- memory ran out
abbrev pub LacksMemory : {X : Type 0} → Result X ReadErr → Type 0
LacksMemory result = result ≡ Err errors.NoMemory

-- where the bytes end too early, that is the answer, and not want of memory
abbrev pub HidesNoShort : {X Y : Type 0} → Result X ReadErr → Result Y FormFault → Type 0
HidesNoShort result read = LacksMemory result → IsShort read → ⊥

-- where the bytes end before the first words that are kept, that is the answer, and not want of memory
abbrev pub TellsShort : {X Y : Type 0} → ℕ → Result X ReadErr → Result Y FormFault → Type 0
TellsShort at result read = (place : ℕ) → place ≤ at + 8 → read ≡ Err (fault place SHORT) → result ≡ Err (errors.Form (fault place SHORT))

-- a number and the bytes after it
unfoldable pub number_at : ℕ → List ℕ → Result (ℕ × List ℕ) FormFault
number_at at bytes = if nat_lt (length bytes) 8 then Err (fault at SHORT) else Ok (from_le_bytes w64 (take 8 bytes), drop 8 bytes)

-- the words that bytes begin with
unfoldable pub words_in : ℕ → List ℕ → List ℕ
words_in zero bytes = []
words_in (suc count) bytes = from_le_bytes w64 (take 8 bytes) ∷ words_in count (drop 8 bytes)

-- a run of bits and the bytes after it
unfoldable pub run_at : ℕ → ℕ → List ℕ → Result (List Bool × List ℕ) FormFault
run_at at len bytes =
    if nat_lt (length bytes) (8 * words_for len) then Err (fault at SHORT)
    else (if nat_lt (words_number (words_in (words_for len) bytes)) (2 ^ len) then Ok (
      bits_of len (words_number (words_in (words_for len) bytes)),
      drop (8 * words_for len) bytes,
    )
    else Err (fault (at + 8 * words_for len - 8) PADDING))

-- the values, once the bits are read: the number of ones, then the order, then the last value
unfoldable pub checked : ℕ → ℕ → ℕ → ℕ → ℕ → List Bool → List Bool → Result (List ℕ) FormFault
checked at high_at count last width low high =
    if not (ones high == count) then Err (fault high_at COUNT)
    else (if not (rises 0 (values_of width low high)) then Err (fault (at + 8) ORDER)
    else (if last_of 0 (values_of width low high) == last then Ok (values_of width low high) else Err (fault at LAST)))

-- the bits and the values, once the last value and the width are known
unfoldable pub parts_at : ℕ → ℕ → ℕ → ℕ → List ℕ → Result (List ℕ × List ℕ) FormFault
parts_at at count last width bytes = do
  low ← run_at (at + 8) (count * width) bytes
  high ← run_at (at + 8 + 8 * words_for (count * width)) (high_len count last width) low.1
  values ← checked at (at + 8 + 8 * words_for (count * width)) count last width low.0 high.0
  Ok (values, high.1)

-- the list of that count that bytes begin with, and the bytes after it
unfoldable pub list_at : ℕ → ℕ → List ℕ → Result (List ℕ × List ℕ) FormFault
list_at at count bytes = do
  last ← number_at at bytes
  if (count == 0) && not (last.0 == 0) then Err (fault at LAST) else parts_at at count last.0 (low_width count last.0) last.1

-- the spelling of a list of that count stands in the bytes from one place to the other
pub record IsSpelled (bytes : List ℕ) (at count : ℕ) (vs : List ℕ) (next : ℕ) : Type 0 where
  pub rising : IsRising vs
  pub count_is : length vs ≡ count
  pub next_is : next ≡ at + length (ef_text vs)
  pub text : drop at bytes ≡ ef_text vs ++ drop next bytes
