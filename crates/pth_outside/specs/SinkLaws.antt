-- What several calls on a sink leave, one after another.
use Rattle.std.proofs.Common.{arith}
use Rattle.pth_outside.specs.Sink.{SinkState, LeavesSink}

-- no call at all, which can't have failed
pub LeavesSink-none : {failed : Type 0} (a : SinkState) → (failed → ⊥) → LeavesSink a a failed
LeavesSink-none a never = record { later = omega arith; fault = λ failed. absurd (never failed) }

-- another failure that comes from the first
pub LeavesSink-if : {failed failed' : Type 0} (a b : SinkState) → (failed' → failed) → LeavesSink a b failed →
    LeavesSink a b failed'
LeavesSink-if a b comes leaves = record { later = leaves.later; fault = λ failed. leaves.fault (comes failed) }

-- two calls: the two fail where the second does
pub LeavesSink-then : {before failed : Type 0} (a b c : SinkState) → LeavesSink a b before → LeavesSink b c failed →
    LeavesSink a c failed
LeavesSink-then a b c first second = record {
  later = omega (arith, first.later, second.later);
  fault = λ failed. omega (arith, first.later, second.fault failed);
}

-- two calls: a failure of the first stays one, whatever comes after it
pub LeavesSink-after : {after failed : Type 0} (a b c : SinkState) → LeavesSink a b failed → LeavesSink b c after →
    LeavesSink a c failed
LeavesSink-after a b c first second = record {
  later = omega (arith, first.later, second.later);
  fault = λ failed. omega (arith, first.fault failed, second.later);
}
