use Rattle.std.proofs.Common.{◌≡◌, length, drop}
use Rattle.command_words.specs.Values.{numbers_of}
use Rattle.command_words.proofs.Seeds.{after, pieces_of}
use Rattle.command_words.proofs.number.read_seeds.Given as goal

abbrev pub invariant-loop-piece : goal.invariant-loop-piece
invariant-loop-piece l =
    after l.seeds.items (numbers_of (drop (length l.yielded) (pieces_of l.text))) ≡ numbers_of (pieces_of l.text)
