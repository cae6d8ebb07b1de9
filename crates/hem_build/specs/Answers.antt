-- What the answers of an attempt and of a build stand for.
use Rattle.std.specs.Prelude.{◌≡◌, ℕ, ◌+◌, List, [], ◌∷◌, length, slice_index, Result, Ok, Err, IfOk, Vec}
use Rattle.pthash.specs.declared.Record.{Record}
use Rattle.pilot_search.specs.declared.placing.Stuck.{Stuck as StuckBucket}
use Rattle.bucket_map.specs.declared.order.NoMemory.{NoMemory as Want}
use Rattle.build_outcome.specs.Attempt.{Rules, Attempt, clashed, stuck, complete}
use Rattle.build_outcome.specs.Index.{PartData, IndexData}
use Rattle.build_outcome.specs.Mark.{mark_of}
use Rattle.build_outcome.specs.Outcome.{Outcome, repeated, exhausted, built}
use Rattle.build_outcome.specs.Ranges.{parts_between}
use Rattle.hem_build.specs.declared.attempt.Attempt as tried
use Rattle.hem_build.specs.declared.attempt.Attempt.TheVariants.{Clashed, Stuck, Complete}
use Rattle.hem_build.specs.declared.groups.StuckPart.{StuckPart}
use Rattle.hem_build.specs.declared.refusal.Refusal.{Refusal}
use Rattle.hem_build.specs.declared.refusal.Refusal.TheVariants.{RepeatedKey, SeedsExhausted, NoMemory}

-- a partition, or its bucket that has no pilot
abbrev pub part_data : Result PartData StuckBucket → Result PartData ℕ
part_data (Ok part) = Ok part
part_data (Err place) = Err place.bucket

-- partitions, or the first that is stuck
abbrev pub group_data : {Z : Type 0} → Result (Vec PartData Z) StuckPart → Result (List PartData) (ℕ × ℕ)
group_data (Ok parts) = Ok parts.items
group_data (Err place) = Err (place.part, place.bucket)

-- each group from this one on has its answer, but for want of memory
abbrev pub AreGroupAnswers : {Z : Type 0} → Rules → ℕ → List (List Record) → List ℕ → ℕ →
    List (Result (Result (Vec PartData Z) StuckPart) Want) → Type 0
AreGroupAnswers rules seed partitions starts group [] = length starts ≡ group + 1
AreGroupAnswers rules seed partitions starts group (answer ∷ answers) =
    IfOk answer (λ ends. group_data ends ≡ parts_between rules seed partitions (slice_index starts group) (slice_index starts (group + 1)))
    × AreGroupAnswers rules seed partitions starts (group + 1) answers

-- an attempt
abbrev pub attempt_data : tried.Attempt → Attempt
attempt_data (Clashed first second) = clashed first second
attempt_data (Stuck part bucket) = stuck part bucket
attempt_data (Complete parts mark) = complete parts.items

-- where an attempt is complete, it has the mark of its keys
abbrev pub HasMark : List (List ℕ) → ℕ → tried.Attempt → Type 0
HasMark keys seed (Clashed first second) = Unit {0}
HasMark keys seed (Stuck part bucket) = Unit {0}
HasMark keys seed (Complete parts mark) = mark ≡ mark_of keys seed

-- the end of a build; want of memory is none
abbrev pub outcome_data : Result IndexData Refusal → Outcome
outcome_data (Ok index) = built index
outcome_data (Err (RepeatedKey first second)) = repeated first second
outcome_data (Err (SeedsExhausted causes)) = exhausted causes.list.items
outcome_data (Err NoMemory) = exhausted []
