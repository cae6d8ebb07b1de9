-- What several calls on files leave, one after another.
use Rattle.std.proofs.Common.{Option, refl, sym, subst, ◌∙◌, arith}
use Rattle.std.specs.Prelude.{IsTrue}
use Rattle.pth_outside.specs.Files.{FileMap, FilesState, LeavesFiles, ReadsFiles}

-- a call that only reads is a call
pub ReadsFiles-leaves : {failed because : Type 0} (a b : FilesState) → ReadsFiles a b failed because →
    LeavesFiles a b failed because
ReadsFiles-leaves a b reads =
    record { sure = reads.sure; later = reads.later; fault = reads.fault; missing = reads.missing }

-- no call at all, which can't have failed
pub ReadsFiles-none : {failed because : Type 0} (a : FilesState) → (failed → ⊥) → ReadsFiles a a failed because
ReadsFiles-none a never = record {
  told = refl;
  sure = refl;
  later = omega arith;
  fault = λ failed. absurd (never failed);
  missing = λ failed sure. absurd (never failed);
}

-- another failure that comes from the first, and another cause that follows from it
pub ReadsFiles-if : {failed because failed' because' : Type 0} (a b : FilesState) → (failed' → failed) →
    (because → because') → ReadsFiles a b failed because → ReadsFiles a b failed' because'
ReadsFiles-if a b comes causes reads = record {
  told = reads.told;
  sure = reads.sure;
  later = reads.later;
  fault = λ failed. reads.fault (comes failed);
  missing = λ failed sure. causes (reads.missing (comes failed) sure);
}

-- a call that didn't fail
pub ReadsFiles-ok : {before cause failed because : Type 0} (a b : FilesState) → (failed → ⊥) →
    ReadsFiles a b before cause → ReadsFiles a b failed because
ReadsFiles-ok a b never reads = record {
  told = reads.told;
  sure = reads.sure;
  later = reads.later;
  fault = λ failed. absurd (never failed);
  missing = λ failed sure. absurd (never failed);
}

-- a call that didn't fail, and that may change files
pub LeavesFiles-ok : {before cause failed because : Type 0} (a b : FilesState) → (failed → ⊥) →
    LeavesFiles a b before cause → LeavesFiles a b failed because
LeavesFiles-ok a b never leaves = record {
  sure = leaves.sure;
  later = leaves.later;
  fault = λ failed. absurd (never failed);
  missing = λ failed sure. absurd (never failed);
}

-- another failure of a call that may change files, and another cause
pub LeavesFiles-if : {failed because failed' because' : Type 0} (a b : FilesState) → (failed' → failed) →
    (because → because') → LeavesFiles a b failed because → LeavesFiles a b failed' because'
LeavesFiles-if a b comes causes leaves = record {
  sure = leaves.sure;
  later = leaves.later;
  fault = λ failed. leaves.fault (comes failed);
  missing = λ failed sure. causes (leaves.missing (comes failed) sure);
}

-- two calls that read: the two fail where the second does, with a cause that depends on what the files tell
pub ReadsFiles-then : {before cause failed : Type 0} (because : Option FileMap → Type 0) (a b c : FilesState) →
    ReadsFiles a b before cause → ReadsFiles b c failed (because b.told) → ReadsFiles a c failed (because a.told)
ReadsFiles-then because a b c first second = record {
  told = second.told ∙ first.told;
  sure = second.sure ∙ first.sure;
  later = omega (arith, first.later, second.later);
  fault = λ failed. omega (arith, first.later, second.fault failed);
  missing = λ failed sure. subst because first.told (second.missing failed (subst IsTrue (sym first.sure) sure));
}

-- two calls: the two fail where the second does
pub LeavesFiles-then : {before cause failed because : Type 0} (a b c : FilesState) → LeavesFiles a b before cause →
    LeavesFiles b c failed because → LeavesFiles a c failed because
LeavesFiles-then a b c first second = record {
  sure = second.sure ∙ first.sure;
  later = omega (arith, first.later, second.later);
  fault = λ failed. omega (arith, first.later, second.fault failed);
  missing = λ failed sure. second.missing failed (subst IsTrue (sym first.sure) sure);
}

-- two calls: a failure of the first stays one, whatever comes after it
pub LeavesFiles-after : {after cause failed because : Type 0} (a b c : FilesState) → LeavesFiles a b failed because →
    LeavesFiles b c after cause → LeavesFiles a c failed because
LeavesFiles-after a b c first second = record {
  sure = second.sure ∙ first.sure;
  later = omega (arith, first.later, second.later);
  fault = λ failed. omega (arith, first.fault failed, second.later);
  missing = first.missing;
}
