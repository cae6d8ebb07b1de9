-- What a sink holds after one write, whatever its answer.
use Rattle.std.proofs.Common.{◌≡◌, ℕ, List, [], length, take, Option, Some, None, Result, Ok, Err, OnOk, refl, sym, ap, ◌∙◌, arith}
use Rattle.std.specs.Result.{IsErrOf}
use Rattle.std.proofs.lemmas.List.{append-nil, take_all}
use Rattle.pth_outside.specs.declared.sink.SinkErr.{SinkErr}
use Rattle.pth_outside.specs.declared.sink.SinkErr.TheVariants.{Failed, NoMemory}
use Rattle.pth_outside.specs.Sink.{SinkState, written, WritesFront}

-- nothing written is the front of any piece
pub written-nothing : (told : Option (List ℕ)) → told ≡ written [] told
written-nothing None = refl
written-nothing (Some bytes) = ap Some (sym (append-nil bytes))

-- a front stands there after each answer
pub front_of_write : (piece : List ℕ) (old new : SinkState) (answer : Result (Unit {0}) SinkErr) →
    OnOk answer (new.told ≡ written piece old.told) → (IsErrOf answer Failed → WritesFront piece old new) →
    (IsErrOf answer NoMemory → new.told ≡ old.told) → WritesFront piece old new
front_of_write piece old new (Ok u) ok failed kept =
    let whole : take (length piece) piece ≡ piece = take_all (length piece) piece (omega arith) in
    (length piece, rw whole ok)
front_of_write piece old new (Err Failed) ok failed kept = failed refl
front_of_write piece old new (Err NoMemory) ok failed kept = (0, kept refl ∙ written-nothing old.told)
