-- A reader of the lines of a file: where it stands, and which line comes next.
use Rattle.std.specs.Prelude.{◌≡◌, ℕ, ◌+◌, ◌<◌, ◌≤◌, List, [], ◌∷◌, length, take, drop, slice_index, Option}
use Rattle.pth_outside.specs.declared.TheConstants.{LINE_FEED, LONGEST_KEY}
use Rattle.pth_outside.specs.Files.{FileMap, ForFile, IsThere}
use Rattle.pth_outside.specs.Keys.{keys_of, HasNoFeed}

-- its file, its place there, the bytes read ahead from there, and how many lines it has given
pub record Reader : Type 0 where
  pub name : List ℕ
  pub place : ℕ
  pub ahead : List ℕ
  pub lines : ℕ

-- the bytes read ahead are those of the file at the reader's place
abbrev pub IsInStep : Reader → Option FileMap → Type 0
IsInStep r told = ForFile told r.name (λ bytes. r.ahead ≡ take (length r.ahead) (drop r.place bytes))

-- the lines of a text that the reader has not given
abbrev pub lines_left : Reader → List ℕ → List (List ℕ)
lines_left r bytes = keys_of (drop r.place bytes)

-- the lines that the reader has not given are these, where it is in step with a file that is told
abbrev pub HasLeft : Reader → Option FileMap → (List ℕ → List (List ℕ)) → Type 0
HasLeft r told lines = IsInStep r told → ForFile told r.name (λ bytes. lines_left r bytes ≡ lines bytes)

-- after a line that takes this many bytes of the file
abbrev pub advanced : ℕ → Reader → Reader
advanced count r = record r { place = r.place + count; ahead = drop count r.ahead; lines = r.lines + 1 }

-- both stand at the same place, after as many lines
pub record IsAt (old new : Reader) : Type 0 where
  pub name : new.name ≡ old.name
  pub place : new.place ≡ old.place
  pub lines : new.lines ≡ old.lines

-- the first of these lines is longer than a key may be
abbrev pub HasLongFirst : List (List ℕ) → Type 0
HasLongFirst [] = ⊥
HasLongFirst (line ∷ lines) = LONGEST_KEY < length line

-- as many bytes are ahead as the longest line has with its feed, and there is no feed
pub record IsStuck (ahead : List ℕ) : Type 0 where
  pub full : length ahead ≡ LONGEST_KEY + 1
  pub none : HasNoFeed ahead

-- the first line feed of these bytes is at this place
pub record IsFirstFeed (bytes : List ℕ) (place : ℕ) : Type 0 where
  pub within : place < length bytes
  pub feed : slice_index bytes place ≡ LINE_FEED
  pub before : HasNoFeed (take place bytes)

-- the next line has len bytes, and takes that many bytes of the file with its feed
pub record IsNextLine (r : Reader) (told : Option FileMap) (len whole : ℕ) : Type 0 where
  pub within : whole ≤ length r.ahead
  pub begins : len ≤ whole
  pub short : len ≤ LONGEST_KEY
  pub line : IsInStep r told → ForFile told r.name (λ bytes.
      lines_left r bytes ≡ take len r.ahead ∷ keys_of (drop (r.place + whole) bytes))

-- the next line is the one with this number, and it is longer than a key may be; the reader stays, and it is stuck
pub record IsTooLong (old new : Reader) (told : Option FileMap) (line : ℕ) : Type 0 where
  pub number : line ≡ old.lines + 1
  pub stuck : IsStuck new.ahead
  pub long : IsInStep old told → ForFile told old.name (λ bytes. HasLongFirst (lines_left old bytes))
  pub there : old.ahead ≡ [] → IsThere told old.name
