-- Groups of neighbouring partitions: where they begin, and what they come to.
use Rattle.std.proofs.Common.{◌≡◌, ℕ, suc, ◌+◌, ◌<◌, ◌≤◌, List, [], ◌∷◌, ◌++◌, length, Result, Ok, Err}
use Rattle.std.proofs.Common.{refl, sym, ap, ◌∙◌, subst, arith, ⊎_elim}
use Rattle.std.specs.Prelude.{slice_index, slice_index_or, IfOk, Vec}
use Rattle.std.proofs.lemmas.Bool.{cases_lt}
use Rattle.std.proofs.lemmas.List.{length-append, get_or_append_left, get_or-append-add, append_assoc}
use Rattle.pthash.specs.declared.Record.{Record}
use Rattle.bucket_map.specs.declared.order.NoMemory.{NoMemory as Want}
use Rattle.build_outcome.specs.Attempt.{Rules, part_of, before_parts, parts_from}
use Rattle.build_outcome.specs.Index.{PartData}
use Rattle.build_outcome.specs.OnePart.{one_part, part_of-one_part}
use Rattle.build_outcome.specs.Ranges.{joined, joined-nil, joined-done, joined_assoc, parts_between, parts_between-all, parts_between-none}
use Rattle.build_outcome.specs.Ranges.{parts_between-cons, parts_between-joined}
use Rattle.pilot_search.specs.declared.placing.Stuck.{Stuck}
use Rattle.part_function.specs.Answers.{IsPartAnswer}
use Rattle.settings.specs.Settings.{SettingsData}
use Rattle.hem_build.specs.Answers.{part_data, group_data, AreGroupAnswers}
use Rattle.hem_build.specs.Rules.{one_rule}
use Rattle.hem_build.specs.Starts.{AreGroupStarts}
use Rattle.hem_build.specs.declared.groups.StuckPart.{StuckPart}

-- the starts of the first groups, and where the next one begins
pub record AreGroupsTo (partitions i next : ℕ) (starts : List ℕ) : Type 0 where
  pub count : length starts ≡ i
  pub within : next ≤ partitions
  pub first : 0 < i → slice_index starts 0 ≡ 0
  pub none : i ≡ 0 → next ≡ 0
  pub rising : (k : ℕ) → k + 1 < i → slice_index starts k ≤ slice_index starts (k + 1)
  pub below : (k : ℕ) → k < i → slice_index starts k ≤ next

-- no group has begun
pub no_groups : (partitions : ℕ) → AreGroupsTo partitions 0 0 []
no_groups partitions = record {
  count = refl;
  within = omega arith;
  first = λ some. absurd (omega arith);
  none = λ same. refl;
  rising = λ k lower. absurd (omega arith);
  below = λ k lower. absurd (omega arith);
}

-- what stands in front stays
pushed_before : (starts : List ℕ) (next k : ℕ) → k < length starts → slice_index (starts ++ next ∷ []) k ≡ slice_index starts k
pushed_before starts next k within = get_or_append_left starts (next ∷ []) 0 k within

-- what is pushed stands at the end
pushed_at : (starts : List ℕ) (next k : ℕ) → k ≡ length starts → slice_index (starts ++ next ∷ []) k ≡ next
pushed_at starts next k at =
    let same : k ≡ length starts + 0 = omega arith in
    ap (λ n. slice_index (starts ++ next ∷ []) n) same ∙ get_or-append-add starts (next ∷ []) 0 0

-- one group more begins
pub groups_more : (partitions i next later : ℕ) (starts : List ℕ) → AreGroupsTo partitions i next starts → next ≤ later → later ≤ partitions →
    AreGroupsTo partitions (i + 1) later (starts ++ next ∷ [])
groups_more partitions i next later starts so_far up within =
    let at : (k : ℕ) → k ≡ i → slice_index (starts ++ next ∷ []) k ≡ next = λ k same. pushed_at starts next k (omega (arith, so_far.count)) in
    let before : (k : ℕ) → k < i → slice_index (starts ++ next ∷ []) k ≡ slice_index starts k =
    λ k lower. pushed_before starts next k (omega (arith, so_far.count)) in
    record {
      count = omega (arith, length-append starts (next ∷ []), so_far.count);
      within = within;
      first = λ some.
          ⊎_elim (λ (old : 0 < i). before 0 old ∙ so_far.first old)
          (λ (new : i ≤ 0). at 0 (omega arith) ∙ so_far.none (omega arith))
          (cases_lt 0 i);
      none = λ same. absurd (omega arith);
      rising = λ k lower.
          ⊎_elim
          (λ (old : k + 1 < i). omega (arith, before k (omega arith), before (k + 1) old, so_far.rising k old))
          (λ (new : i ≤ k + 1). omega (arith, before k (omega arith), at (k + 1) (omega arith), so_far.below k (omega arith)))
          (cases_lt (k + 1) i);
      below = λ k lower.
          ⊎_elim
          (λ (old : k < i). omega (arith, before k old, so_far.below k old))
          (λ (new : i ≤ k). omega (arith, at k (omega arith)))
          (cases_lt k i);
    }

-- all groups have begun, and the last ends behind the last partition
pub groups_done : (groups partitions next : ℕ) (starts : List ℕ) → 1 ≤ groups → AreGroupsTo partitions groups next starts →
    AreGroupStarts groups partitions (starts ++ partitions ∷ [])
groups_done groups partitions next starts some so_far =
    let at : slice_index (starts ++ partitions ∷ []) groups ≡ partitions = pushed_at starts partitions groups (omega (arith, so_far.count)) in
    let before : (k : ℕ) → k < groups → slice_index (starts ++ partitions ∷ []) k ≡ slice_index starts k =
    λ k lower. pushed_before starts partitions k (omega (arith, so_far.count)) in
    record {
      count = omega (arith, length-append starts (partitions ∷ []), so_far.count);
      first = before 0 (omega arith) ∙ so_far.first (omega arith);
      last = at;
      rising = λ k lower.
          ⊎_elim
          (λ (old : k + 1 < groups). omega (arith, before k lower, before (k + 1) old, so_far.rising k old))
          (λ (new : groups ≤ k + 1).
          let same : k + 1 ≡ groups = omega arith in
          let end : slice_index (starts ++ partitions ∷ []) (k + 1) ≡ partitions = ap (slice_index (starts ++ partitions ∷ [])) same ∙ at in
          omega (arith, before k lower, so_far.below k lower, so_far.within))
          (cases_lt (k + 1) groups);
      within = λ k most.
          ⊎_elim
          (λ (old : k < groups). omega (arith, before k old, so_far.below k old, so_far.within))
          (λ (new : groups ≤ k).
          let same : k ≡ groups = omega arith in
          let end : slice_index (starts ++ partitions ∷ []) k ≡ partitions = ap (slice_index (starts ++ partitions ∷ [])) same ∙ at in
          omega arith)
          (cases_lt k groups);
    }

-- what the build of some records answers, as one equation
pub part_answer : (s : SettingsData) (seed : ℕ) (records : List Record) (result : Result (Result PartData Stuck) Want) →
    IfOk result (λ answer. IsPartAnswer s.shape s.limit seed records answer) →
    IfOk result (λ answer. part_data answer ≡ part_of (one_rule s) seed records)
part_answer s seed records (Ok (Ok part)) is = sym is.part
part_answer s seed records (Ok (Err place)) is = sym is.stuck.no_part
part_answer s seed records (Err want) is = tt

-- a range of partitions is what was built of it, before what is left from a place on
abbrev pub IsBuiltTo : Rules → ℕ → List (List Record) → ℕ → ℕ → ℕ → List PartData → Type 0
IsBuiltTo rules seed partitions from to next built =
    parts_between rules seed partitions from to ≡ joined (Ok built) (parts_between rules seed partitions next to)

-- nothing is built
pub built_none : (rules : Rules) (seed : ℕ) (partitions : List (List Record)) (from to : ℕ) → IsBuiltTo rules seed partitions from to from []
built_none rules seed partitions from to = joined-nil (parts_between rules seed partitions from to)

-- the next partition behind those that are built
next_built : (built : List PartData) (number : ℕ) (part : PartData) (rest : Result (List PartData) (ℕ × ℕ)) →
    joined (Ok built) (before_parts number (Ok part) rest) ≡ joined (Ok (built ++ part ∷ [])) rest
next_built built number part (Err stuck) = refl
next_built built number part (Ok more) = ap Ok (sym (append_assoc built (part ∷ []) more))

-- what is left begins with the next partition
pub next_answer : (rules : Rules) (seed from to next : ℕ) (partitions : List (List Record)) (built : List PartData) (answer : Result PartData ℕ) →
    next < to → to ≤ length partitions → part_of (one_part rules.shape rules.limit) seed (slice_index_or partitions next []) ≡ answer →
    IsBuiltTo rules seed partitions from to next built →
    parts_between rules seed partitions from to
    ≡ joined (Ok built) (before_parts next answer (parts_between rules seed partitions (next + 1) to))
next_answer rules seed from to next partitions built answer some within is so_far =
    so_far
    ∙ ap (joined (Ok built)) (parts_between-cons rules seed partitions next to some within)
    ∙ ap (λ a. joined (Ok built) (before_parts next a (parts_between rules seed partitions (next + 1) to)))
    (part_of-one_part rules seed (slice_index_or partitions next []) ∙ is)

-- one partition more is built
pub built_more : (rules : Rules) (seed from to next : ℕ) (partitions : List (List Record)) (built : List PartData) (part : PartData) →
    next < to → to ≤ length partitions → part_of (one_part rules.shape rules.limit) seed (slice_index_or partitions next []) ≡ Ok part →
    IsBuiltTo rules seed partitions from to next built → IsBuiltTo rules seed partitions from to (next + 1) (built ++ part ∷ [])
built_more rules seed from to next partitions built part some within is so_far =
    next_answer rules seed from to next partitions built (Ok part) some within is so_far
    ∙ next_built built next part (parts_between rules seed partitions (next + 1) to)

-- one is stuck
pub stuck_there : (rules : Rules) (seed from to next bucket : ℕ) (partitions : List (List Record)) (built : List PartData) →
    next < to → to ≤ length partitions → part_of (one_part rules.shape rules.limit) seed (slice_index_or partitions next []) ≡ Err bucket →
    IsBuiltTo rules seed partitions from to next built → Err (next, bucket) ≡ parts_between rules seed partitions from to
stuck_there rules seed from to next bucket partitions built some within is so_far =
    sym (next_answer rules seed from to next partitions built (Err bucket) some within is so_far)

-- all are built
pub built_all : (rules : Rules) (seed from to next : ℕ) (partitions : List (List Record)) (built : List PartData) →
    to ≤ next → IsBuiltTo rules seed partitions from to next built → Ok built ≡ parts_between rules seed partitions from to
built_all rules seed from to next partitions built past so_far =
    sym (so_far ∙ ap (joined (Ok built)) (parts_between-none rules seed partitions next to past) ∙ joined-done built)

-- what is left begins with the answer of the next group
group_answer : (rules : Rules) (seed from next later to : ℕ) (partitions : List (List Record)) (built : List PartData)
    (answer : Result (List PartData) (ℕ × ℕ)) → next ≤ later → later ≤ to → to ≤ length partitions →
    answer ≡ parts_between rules seed partitions next later → IsBuiltTo rules seed partitions from to next built →
    parts_between rules seed partitions from to ≡ joined (Ok built) (joined answer (parts_between rules seed partitions later to))
group_answer rules seed from next later to partitions built answer first second within is so_far =
    so_far
    ∙ ap (joined (Ok built)) (parts_between-joined rules seed partitions next later to first second within)
    ∙ ap (λ a. joined (Ok built) (joined a (parts_between rules seed partitions later to))) (sym is)

-- one group more is built
pub group_more : (rules : Rules) (seed from next later to : ℕ) (partitions : List (List Record)) (built parts : List PartData) →
    next ≤ later → later ≤ to → to ≤ length partitions → Ok parts ≡ parts_between rules seed partitions next later →
    IsBuiltTo rules seed partitions from to next built → IsBuiltTo rules seed partitions from to later (built ++ parts)
group_more rules seed from next later to partitions built parts first second within is so_far =
    group_answer rules seed from next later to partitions built (Ok parts) first second within is so_far
    ∙ sym (joined_assoc (Ok built) (Ok parts) (parts_between rules seed partitions later to))

-- one has a partition that is stuck
pub group_stuck : (rules : Rules) (seed from next later to : ℕ) (partitions : List (List Record)) (built : List PartData) (stuck : ℕ × ℕ) →
    next ≤ later → later ≤ to → to ≤ length partitions → Err stuck ≡ parts_between rules seed partitions next later →
    IsBuiltTo rules seed partitions from to next built → Err stuck ≡ parts_between rules seed partitions from to
group_stuck rules seed from next later to partitions built stuck first second within is so_far =
    sym (group_answer rules seed from next later to partitions built (Err stuck) first second within is so_far)

-- all partitions, as a range
pub all_between : (rules : Rules) (seed n : ℕ) (partitions : List (List Record)) → n ≡ length partitions →
    parts_between rules seed partitions 0 n ≡ parts_from rules seed 0 partitions
all_between rules seed n partitions is = ap (parts_between rules seed partitions 0) is ∙ parts_between-all rules seed partitions

-- answers that each group gives are those of the groups
pub group_answers_each : {Z : Type 0} (rules : Rules) (seed : ℕ) (partitions : List (List Record)) (starts : List ℕ) (group : ℕ)
    (answers : List (Result (Result (Vec PartData Z) StuckPart) Want)) → length starts ≡ group + length answers + 1 →
    ((i : ℕ) (d : Result (Result (Vec PartData Z) StuckPart) Want) → i < length answers → IfOk (slice_index_or answers i d)
    (λ ends. group_data ends ≡ parts_between rules seed partitions (slice_index starts (group + i)) (slice_index starts (group + i + 1)))) →
    AreGroupAnswers rules seed partitions starts group answers
group_answers_each rules seed partitions starts group [] count each = omega arith
group_answers_each {Z} rules seed partitions starts group (answer ∷ answers) count each =
    let here : group + 0 ≡ group = omega arith in (
      subst (λ k. IfOk answer (λ ends. group_data ends ≡ parts_between rules seed partitions (slice_index starts k) (slice_index starts (k + 1)))) here
          (each 0 answer (omega arith)),
      group_answers_each rules seed partitions starts (group + 1) answers (omega arith)
          (λ i d within.
          let next : group + suc i ≡ group + 1 + i = omega arith in
          subst (λ k. IfOk (slice_index_or answers i d)
          (λ ends. group_data ends ≡ parts_between rules seed partitions (slice_index starts k) (slice_index starts (k + 1)))) next
          (each (suc i) d (omega arith))),
    )

-- the same of all groups
pub group_answers_all : {Z : Type 0} (rules : Rules) (seed : ℕ) (partitions : List (List Record)) (starts : List ℕ)
    (answers : List (Result (Result (Vec PartData Z) StuckPart) Want)) → length starts ≡ length answers + 1 →
    ((i : ℕ) (d : Result (Result (Vec PartData Z) StuckPart) Want) → i < length answers → IfOk (slice_index_or answers i d)
    (λ ends. group_data ends ≡ parts_between rules seed partitions (slice_index starts i) (slice_index starts (i + 1)))) →
    AreGroupAnswers rules seed partitions starts 0 answers
group_answers_all rules seed partitions starts answers count each =
    group_answers_each rules seed partitions starts 0 answers (omega arith)
    (λ i d within.
    let same : i ≡ 0 + i = omega arith in
    subst (λ k. IfOk (slice_index_or answers i d)
    (λ ends. group_data ends ≡ parts_between rules seed partitions (slice_index starts k) (slice_index starts (k + 1)))) same (each i d within))

-- there is a start for each group whose answer is left, and the end
pub answers_count : {Z : Type 0} (rules : Rules) (seed : ℕ) (partitions : List (List Record)) (starts : List ℕ) (group : ℕ)
    (answers : List (Result (Result (Vec PartData Z) StuckPart) Want)) → AreGroupAnswers rules seed partitions starts group answers →
    length starts ≡ group + length answers + 1
answers_count rules seed partitions starts group [] are = omega arith
answers_count rules seed partitions starts group (answer ∷ answers) are =
    omega (arith, answers_count rules seed partitions starts (group + 1) answers are.1)
