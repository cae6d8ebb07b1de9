-- The texts that the program prints. Each line ends with a line feed.
use Rattle.std.specs.Prelude.{ℕ, ◌+◌, ◌==◌, List, [], ◌∷◌, ◌++◌, length, codes, decimal, flat_map, if◌then◌else◌, Option, Some, None}
use Rattle.std.specs.Int.{w64, to_be_bytes}
use Rattle.hex.specs.Hex.{encode_lower}
use Rattle.pthash.specs.declared.Map.{Map}
use Rattle.pthash.specs.declared.Map.TheVariants as map
use Rattle.pilot_codecs.specs.declared.code.Code.{Code}
use Rattle.pilot_codecs.specs.declared.code.Code.TheVariants as code
use Rattle.pilot_codecs.specs.declared.code.Encoding.{Encoding}
use Rattle.build_outcome.specs.declared.Cause.{Cause}
use Rattle.build_outcome.specs.declared.Cause.TheVariants.{SameHash, Stuck}
use Rattle.build_outcome.specs.Index.{KeyMarkData}
use Rattle.index_text.specs.declared.fault.IndexFault.{IndexFault}
use Rattle.index_text.specs.declared.fault.IndexFault.TheVariants as faults
use Rattle.command_words.specs.declared.kinds.TheConstants.{COMMAND, MISSING, EXTRA, NAME, REPEATED, NUMBER, RANGE}

-- a text with its line feed
abbrev pub line : List ℕ → List ℕ
line text = text ++ 10 ∷ []

-- the name of a kind of fault in a word
unfoldable pub kind_name : ℕ → List ℕ
kind_name kind =
    if kind == COMMAND then codes "command"
    else if kind == MISSING then codes "missing"
    else if kind == EXTRA then codes "extra"
    else if kind == NAME then codes "name"
    else if kind == REPEATED then codes "repeated"
    else if kind == NUMBER then codes "number"
    else if kind == RANGE then codes "range"
    else codes "same name"

-- the words are refused: the number of the faulty word, from 0, and the kind of its fault
unfoldable pub refused_word : ℕ → ℕ → List ℕ
refused_word word kind = line (codes "word " ++ decimal word ++ codes ": " ++ kind_name kind)

-- a file is missing, or the outside failed
abbrev pub file_fault : List ℕ
file_fault = codes "file fault\n"

-- memory ran out
abbrev pub no_memory : List ℕ
no_memory = codes "no memory\n"

-- the key file has no key
abbrev pub no_keys : List ℕ
no_keys = codes "no keys\n"

-- a line, by its number from 1, has more bytes than a key may have
unfoldable pub too_long : ℕ → List ℕ
too_long number = line (codes "line " ++ decimal number ++ codes " is too long")

-- the file has more of these than that
unfoldable pub too_many : List ℕ → ℕ → List ℕ
too_many what most = line (codes "too many " ++ what ++ codes ": limit " ++ decimal most)

-- two lines, by their numbers from 1, hold the same key
unfoldable pub repeated_key : ℕ → ℕ → List ℕ
repeated_key first second = line (codes "repeated key: lines " ++ decimal first ++ codes " and " ++ decimal second)

-- a line, by its number from 1, has no value
unfoldable pub no_value : ℕ → List ℕ
no_value number = line (codes "line " ++ decimal number ++ codes " has no value")

-- a line has the value of an earlier one
unfoldable pub repeats : ℕ → ℕ → List ℕ
repeats number earlier = line (codes "line " ++ decimal number ++ codes " repeats line " ++ decimal earlier)

-- the list has fewer lines than the index has keys
unfoldable pub fewer : ℕ → ℕ → List ℕ
fewer keys lines = line (codes "index has " ++ decimal keys ++ codes " keys, list has " ++ decimal lines)

-- a number in 16 lower-case hexadecimal digits
abbrev pub sixteen_digits : ℕ → List ℕ
sixteen_digits number = encode_lower (to_be_bytes w64 number)

-- the two numbers of a mark after a word
unfoldable pub word_of_mark : List ℕ → KeyMarkData → List ℕ
word_of_mark word mark = word ++ sixteen_digits mark.sum ++ codes " " ++ sixteen_digits mark.xor

-- the list has another mark than the index keeps
unfoldable pub differs : KeyMarkData → KeyMarkData → List ℕ
differs kept counted = line (codes "keys differ: " ++ word_of_mark (codes "kept ") kept ++ word_of_mark (codes " counted ") counted)

-- the lines map one to one onto the numbers below their count
unfoldable pub good_keys : ℕ → List ℕ
good_keys keys = line (codes "good " ++ decimal keys ++ codes " keys")

-- the name of a code, as the setting spells it
unfoldable pub code_name : Code → List ℕ
code_name code.Compact = codes "c"
code_name code.Parted = codes "pc"
code_name code.Dict = codes "d"
code_name code.EliasFano = codes "ef"

-- the back code after a dash, if there is one
abbrev pub back_name : Option Code → List ℕ
back_name None = []
back_name (Some back) = codes "-" ++ code_name back

-- the name of an encoding, as the setting spells it
unfoldable pub encoding_name : Encoding → List ℕ
encoding_name enc = code_name enc.front ++ back_name enc.back

-- the name of a map, as the setting spells it
unfoldable pub map_name : Map → List ℕ
map_name map.Skewed = codes "skewed"
map_name map.Uniform = codes "uniform"

-- each number after a space
abbrev pub spaced : List ℕ → List ℕ
spaced numbers = flat_map (λ n. 32 ∷ decimal n) numbers

-- the two lines of a partition: its number, how many keys it has, its table size and its pilots by bucket number
unfoldable pub part_lines : ℕ → ℕ → ℕ → List ℕ → List ℕ
part_lines part keys size pilots =
    line (codes "part " ++ decimal part ++ codes " keys " ++ decimal keys ++ codes " size " ++ decimal size
    ++ codes " buckets " ++ decimal (length pilots))
    ++ line (codes "pilots" ++ spaced pilots)

-- the seed and the number of keys, before the lines of the partitions
unfoldable pub seed_lines : ℕ → ℕ → List ℕ
seed_lines seed keys = line (codes "seed " ++ decimal seed) ++ line (codes "keys " ++ decimal keys)

-- no seed of the list succeeds
abbrev pub seeds_exhausted : List ℕ
seeds_exhausted = codes "seeds exhausted\n"

-- a seed failed: two lines, by their numbers from 1, have the same pair of hashes
unfoldable pub same_hash_line : ℕ → ℕ → ℕ → List ℕ
same_hash_line seed first second =
    line (codes "seed " ++ decimal seed ++ codes ": lines " ++ decimal first ++ codes " and " ++ decimal second
    ++ codes " have the same hash")

-- a seed failed: a bucket has no pilot
unfoldable pub stuck_line : ℕ → ℕ → ℕ → List ℕ
stuck_line seed part bucket =
    line (codes "seed " ++ decimal seed ++ codes ": part " ++ decimal part ++ codes " bucket " ++ decimal bucket
    ++ codes " has no pilot")

-- why a seed failed; places are counted from 0, and line numbers from 1
abbrev pub cause_line : ℕ → Cause → List ℕ
cause_line seed (SameHash first second) = same_hash_line seed (first + 1) (second + 1)
cause_line seed (Stuck part bucket) = stuck_line seed part bucket

-- one line for each seed that has a cause, in order
abbrev pub cause_lines : List ℕ → List Cause → List ℕ
cause_lines [] causes = []
cause_lines (seed ∷ seeds) [] = []
cause_lines (seed ∷ seeds) (cause ∷ causes) = cause_line seed cause ++ cause_lines seeds causes

-- the summary of an index: its keys, its seed, the size of its tables and the length of its file
unfoldable pub summary : ℕ → ℕ → ℕ → ℕ → List ℕ
summary keys seed size bytes =
    line (codes "built keys " ++ decimal keys ++ codes " seed " ++ decimal seed ++ codes " size " ++ decimal size
    ++ codes " bytes " ++ decimal bytes)

-- the mark was written: how many keys the index has, and the length of its file
unfoldable pub upgraded : ℕ → ℕ → List ℕ
upgraded keys bytes = line (codes "upgraded " ++ decimal keys ++ codes " keys bytes " ++ decimal bytes)

-- the index has a mark
abbrev pub already_marked : List ℕ
already_marked = codes "already version 2\n"

-- two numbers after a word
unfoldable pub word_of_two : List ℕ → ℕ → ℕ → List ℕ
word_of_two word first second = word ++ decimal first ++ codes " " ++ decimal second

-- the words for a fault of an index
unfoldable pub fault_words : IndexFault → List ℕ
fault_words faults.Short = codes "short"
fault_words faults.Magic = codes "magic"
fault_words (faults.Version found) = codes "version " ++ decimal found
fault_words (faults.Digest kept counted) = word_of_two (codes "digest ") kept counted
fault_words faults.Encoding = codes "encoding"
fault_words (faults.Field at) = codes "field " ++ decimal at
fault_words (faults.Count kept sum) = word_of_two (codes "count ") kept sum
fault_words (faults.Form fault) = word_of_two (codes "form ") fault.kind fault.at
fault_words (faults.Pilot part bucket) = word_of_two (codes "pilot ") part bucket
fault_words (faults.Free part place) = word_of_two (codes "free ") part place
fault_words (faults.Long at) = codes "long " ++ decimal at
fault_words faults.Large = codes "large"
fault_words faults.NoMemory = []

-- an index is refused for a fault
unfoldable pub index_refused : IndexFault → List ℕ
index_refused fault = line (codes "index refused: " ++ fault_words fault)
