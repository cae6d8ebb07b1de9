-- What `check` gives for the bytes of an index and of a key file.
use Rattle.std.specs.Prelude.{List, ℕ, Result, Ok, Err}
use Rattle.build_outcome.specs.Index.{KeyMarkData}
use Rattle.index_file.specs.Encoded.{EncodedIndex}
use Rattle.key_check.specs.declared.checked.Checked.{Checked}
use Rattle.key_check.specs.declared.checked.Checked.TheVariants.{Good, TooLong, NoValue, Repeats, Counts, Differs}
use Rattle.key_check.specs.Checked.{checked}
use Rattle.pth_outside.specs.Keys.{keys_of}
use Rattle.pth_top.specs.declared.TheConstants.{CHECK_FAILED}
use Rattle.pth_top.specs.Done.{Done, said}
use Rattle.pth_top.specs.Lists.{gives, too_long_result}
use Rattle.pth_top.specs.Texts.{no_value, repeats, fewer, differs, good_keys}

-- lines that an index doesn't map one to one, or that are others than its keys
abbrev pub failed_result : List ℕ → Done
failed_result text = said CHECK_FAILED text

-- the mark of lines that check well, or their refusal
abbrev pub mark_found : Checked → Result KeyMarkData Done
mark_found (Good mark) = Ok mark
mark_found (TooLong line) = Err (too_long_result line)
mark_found (NoValue line) = Err (failed_result (no_value line))
mark_found (Repeats line earlier) = Err (failed_result (repeats line earlier))
mark_found (Counts n lines) = Err (failed_result (fewer n lines))
mark_found (Differs kept counted) = Err (failed_result (differs kept counted))

-- the mark of the lines that the bytes of a file are, or their refusal
abbrev pub mark_in : EncodedIndex → List ℕ → Result KeyMarkData Done
mark_in index bytes = mark_found (checked index.index (keys_of bytes))

-- lines that check well
abbrev pub good_result : EncodedIndex → Done
good_result index = said 0 (good_keys index.index.n)

-- what the bytes of a key file give
abbrev pub check_result : EncodedIndex → List ℕ → Done
check_result index bytes = gives (mark_in index bytes) (λ mark. good_result index)
