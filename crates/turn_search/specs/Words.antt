-- The words of a table: the turn word, a claim bit for each rank, a bit for each position, and a pilot for each rank.
use Rattle.std.specs.Prelude.{ℕ, ◌+◌, ◌%◌, ◌/◌, ◌≤◌, Bool, List, length, slice_index}
use Rattle.pthash.specs.Search.{SearchPlan}
use Rattle.word_bits.specs.Bits.{is_set}
use Rattle.turn_search.specs.declared.layout.TheConstants.{STOP}

-- the turn in a value of the turn word
abbrev pub turn_of : ℕ → ℕ
turn_of value = value % STOP

-- the stop bit is set in a value of the turn word
abbrev pub HasStop : ℕ → Type 0
HasStop value = STOP ≤ value

-- how many words hold so many bits
abbrev pub words_for : ℕ → ℕ
words_for bits = (bits + 63) / 64

-- how many buckets have a turn
abbrev pub ranks_of : SearchPlan → ℕ
ranks_of plan = length plan.buckets

-- the first word of the bits of the positions
abbrev pub bits_from : SearchPlan → ℕ
bits_from plan = 1 + words_for (ranks_of plan)

-- the first word of the pilots
abbrev pub pilots_from : SearchPlan → ℕ
pilots_from plan = bits_from plan + words_for plan.size

-- how many words there are
abbrev pub word_count : SearchPlan → ℕ
word_count plan = pilots_from plan + ranks_of plan

-- the turn word
abbrev pub turn_word : List ℕ → ℕ
turn_word words = slice_index words 0

-- the rank whose turn it is
abbrev pub turn_in : List ℕ → ℕ
turn_in words = turn_of (turn_word words)

-- whether a rank is claimed
abbrev pub is_claimed : List ℕ → ℕ → Bool
is_claimed words rank = is_set words 1 rank

-- whether a position is taken
abbrev pub is_taken : SearchPlan → List ℕ → ℕ → Bool
is_taken plan words position = is_set words (bits_from plan) position

-- the pilot that stands for a rank
abbrev pub pilot_in : SearchPlan → List ℕ → ℕ → ℕ
pilot_in plan words rank = slice_index words (pilots_from plan + rank)
