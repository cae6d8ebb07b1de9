-- What crates above use of spellings: what has one, how long it is, and how it is read.
pub use Rattle.pilot_codecs.proofs.CodeLaws.{IsTaken, code_takes, code_again, split_takes, split_again, spelled_at, spelled_again, spelled_once}
pub use Rattle.pilot_codecs.proofs.PairLaws.{all_small, fits_small, split_small, length-code_text, length-split_text, spelled_among}
pub use Rattle.pilot_codecs.proofs.BelowLemmas.{below_each, each_below, below_more, below-front, below-back}
