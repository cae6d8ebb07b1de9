-- What crates above use of numbers, runs of bits and whole lists.
pub use Rattle.elias_fano.proofs.WidthLemmas.{log2_is, log2-le}
pub use Rattle.elias_fano.proofs.ValueLemmas.{slice_get-some, slice_get-none, slice_get-is, found_is, low-lt, rises-yes, rises-parts, below_len-le}
pub use Rattle.elias_fano.proofs.ValueLemmas.{below_len-gt}
pub use Rattle.elias_fano.proofs.ValueLemmas.{below_len-most, below_len-all}
pub use Rattle.elias_fano.proofs.BuildLemmas.{is_among-push, on_ok-map}
pub use Rattle.elias_fano.proofs.FormLemmas.{IsBytes, length-words_in, IsBytes-drop, IsBytes-take, words_in-fit, packed_if_clear}
pub use Rattle.elias_fano.proofs.ReadSteps.{bind_ok, guard_ok, guard_last, done, ok_is, Takes, Takes-then, number_takes, number_again}
pub use Rattle.elias_fano.proofs.ReadSteps.{words_written, words_again, length-numbers, run_takes, run_again}
pub use Rattle.elias_fano.proofs.LawLemmas.{IsTaken, list_takes, list_again, fails_not, length-run, length-ef_text, spelled_among}
pub use Rattle.elias_fano.proofs.ShortLemmas.{bind_err, guard_err, guard_last_err, failed, err_is, read_as, not_both, other_kind, tells, tells_none, tells_same}
