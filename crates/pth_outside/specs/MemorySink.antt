-- What a sink in memory holds, which of its writes fail, and how a write ends.
use Rattle.std.specs.Prelude.{◌≡◌, ◌==◌, ◌/◌, ◌++◌, ℕ, Bool, false, true, List, length, take, Result, OnOk, IsErrOf}
use Rattle.std.specs.List.{list_any}
use Rattle.pth_outside.specs.declared.sink.SinkErr.{SinkErr}
use Rattle.pth_outside.specs.declared.sink.SinkErr.TheVariants.{Failed, NoMemory}
use Rattle.pth_outside.specs.Files.{one_more}

-- the bytes written so far, the numbers of the writes that fail, and both counts
pub record WrittenSink : Type 0 where
  pub bytes : List ℕ
  pub fails : List ℕ
  pub calls : ℕ
  pub faults : ℕ

-- the number of the write that comes next is listed, so it fails
abbrev pub is_listed : WrittenSink → Bool
is_listed s = list_any (λ number. number == s.calls) s.fails

-- after a write more
abbrev pub counted : WrittenSink → WrittenSink
counted s = record s { calls = one_more s.calls }

-- after a write more, of this piece
abbrev pub after_write : List ℕ → WrittenSink → WrittenSink
after_write piece s = record s { bytes = s.bytes ++ piece; calls = one_more s.calls }

-- after a write more that failed, with the first half of its piece
abbrev pub after_failure : List ℕ → WrittenSink → WrittenSink
after_failure piece s = record s { bytes = s.bytes ++ take (length piece / 2) piece; calls = one_more s.calls; faults = one_more s.faults }

-- how a write ends: Failed only where its number is listed, and what stands after each answer
pub record WriteEnds (piece : List ℕ) (old new : WrittenSink) (result : Result (Unit {0}) SinkErr) : Type 0 where
  pub ok : OnOk result (new ≡ after_write piece old)
  pub ok_only : OnOk result (is_listed old ≡ false)
  pub failed : IsErrOf result Failed → new ≡ after_failure piece old
  pub failed_only : IsErrOf result Failed → is_listed old ≡ true
  pub no_memory : IsErrOf result NoMemory → new ≡ counted old
