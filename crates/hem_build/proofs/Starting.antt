-- Where the partitions of an index begin.
use Rattle.std.proofs.Common.{◌≡◌, ℕ, ◌+◌, ◌<◌, ◌≤◌, List, [], ◌∷◌, ◌++◌, length, take, get_or}
use Rattle.std.proofs.Common.{sym, ap, ◌∙◌, arith, ⊎_elim}
use Rattle.std.specs.Prelude.{slice_index}
use Rattle.std.proofs.lemmas.Bool.{cases_lt}
use Rattle.std.proofs.lemmas.List.{length-append, get_or_append_left, get_or-append-add}
use Rattle.std.proofs.lemmas.List.Sums.{sum_by_more}
use Rattle.build_outcome.specs.Index.{PartData}
use Rattle.build_outcome.specs.Values.{key_count}
use Rattle.hem_build.specs.Starts.{AreStarts}

-- the first partitions have their starts, and the total is what they have
pub record AreStarting (parts : List PartData) (i total : ℕ) (starts : List ℕ) : Type 0 where
  pub count : length starts ≡ i
  pub total_is : total ≡ key_count (take i parts)
  pub each : (q : ℕ) → q < i → slice_index starts q ≡ key_count (take q parts)

-- one start more
pub starting_more : (parts : List PartData) (i total more : ℕ) (starts : List ℕ) (part : PartData) → i < length parts → get_or parts i part ≡ part →
    more ≡ total + part.n → AreStarting parts i total starts → AreStarting parts (i + 1) more (starts ++ total ∷ [])
starting_more parts i total more starts part within at is so_far =
    let next : key_count (take (i + 1) parts) ≡ key_count (take i parts) + (get_or parts i part).n =
    sum_by_more (λ (p : PartData). p.n) parts i part within in
    let here : (get_or parts i part).n ≡ part.n = ap (λ (p : PartData). p.n) at in
    record {
      count = omega (arith, length-append starts (total ∷ []), so_far.count);
      total_is = omega (arith, so_far.total_is);
      each = λ q lower.
          ⊎_elim
          (λ (old : q < i). get_or_append_left starts (total ∷ []) 0 q (omega (arith, so_far.count)) ∙ so_far.each q old)
          (λ (new : i ≤ q).
          let same : q ≡ length starts + 0 = omega (arith, so_far.count) in
          let place : q ≡ i = omega arith in
          ap (λ k. get_or (starts ++ total ∷ []) k 0) same ∙ get_or-append-add starts (total ∷ []) 0 0
          ∙ so_far.total_is ∙ ap (λ k. key_count (take k parts)) (sym place))
          (cases_lt q i);
    }

-- all have their starts
pub started_all : (parts : List PartData) (i total : ℕ) (starts : List ℕ) → i ≡ length parts →
    AreStarting parts i total starts → AreStarts parts starts
started_all parts i total starts all so_far = record { count = so_far.count ∙ all; each = λ q within. so_far.each q (omega arith) }
