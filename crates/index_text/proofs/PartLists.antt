-- What is read of pilots and of a free list is their text, and their text is read again.
use Rattle.std.specs.Prelude.{◌≡◌, ℕ, ◌-◌, ◌^◌, ◌<◌, ◌≤◌, List}
use Rattle.std.specs.Prelude.{◌++◌, length, All, Result, Ok}
use Rattle.std.specs.List.Sorted.{IsNonDecreasing}
use Rattle.std.proofs.Common.{get_or, sym, ap, ◌∙◌, inl, inr, arith}
use Rattle.std.proofs.lemmas.Bool.{cases_lt}
use Rattle.std.proofs.lemmas.List.{get_or_past}
use Rattle.pthash.specs.declared.TheConstants.{MAX_PILOTS, MAX_POSITIONS}
use Rattle.elias_fano.specs.declared.fault.FormFault.{FormFault}
use Rattle.elias_fano.specs.Spelling.{ef_text, IsRising}
use Rattle.elias_fano.specs.Reading.{list_at}
use Rattle.elias_fano.proofs.CallerLemmas.{IsBytes, Takes, list_takes, list_again}
use Rattle.pilot_codecs.specs.declared.code.Encoding.{Encoding}
use Rattle.pilot_codecs.specs.Spelling.{pair_text}
use Rattle.pilot_codecs.specs.Encoded.{FitSplit, pair_at}
use Rattle.pilot_codecs.proofs.CallerLemmas.{all_small, split_small, split_takes, split_again}
use Rattle.index_text.specs.declared.fault.IndexFault.TheVariants as faults
use Rattle.index_text.specs.Faults.{◌>>=◌, formed, all_below}
use Rattle.index_text.specs.Lists.{pilots_at, free_at}
use Rattle.index_text.proofs.Steps.{bind_ok, formed_ok, all_below-ok, all_below-again}
use Rattle.index_text.proofs.Words.{rest_fits}
use Rattle.index_text.proofs.Rising.{rises-IsNonDecreasing}

-- ---- pilots

-- pilots that were read
pub record PilotsTaken (enc : Encoding) (buckets : ℕ) (bytes vs rest : List ℕ) : Type 0 where
  pub taken : Takes bytes (pair_text enc vs) rest
  pub count : length vs ≡ buckets
  pub below : All (λ k. k < MAX_PILOTS) vs

-- what is read as pilots is their text
pub pilots_take : (total : ℕ) (enc : Encoding) (number buckets : ℕ) (bytes vs rest : List ℕ) → IsBytes bytes → buckets ≤ 2 ^ 30 →
    pilots_at total enc number buckets bytes ≡ Ok (vs, rest) → PilotsTaken enc buckets bytes vs rest
unfolding pilots_at
pilots_take total enc number buckets bytes vs rest fits few e =
    let at = total - length bytes in
    let fault = λ (bucket : ℕ). faults.Pilot number bucket in
    let a = bind_ok (formed (pair_at enc at buckets bytes)) (all_below MAX_PILOTS fault) (vs, rest) e in
    let b = all_below-ok MAX_PILOTS fault a.0 (vs, rest) a.2 in
    let read : pair_at enc at buckets bytes ≡ Ok (vs, rest) =
    formed_ok (pair_at enc at buckets bytes) a.0 a.1 ∙ ap (λ (p : List ℕ × List ℕ). Ok p) b.same in
    let t = split_takes enc.front enc.back at buckets bytes vs rest fits few read in
    record { taken = record { parts = t.0.parts; rest_fits = t.0.rest_fits }; count = t.0.count_is; below = b.below }

-- pilots have a spelling
pub FitSplit-pilots : (enc : Encoding) (vs : List ℕ) → length vs ≤ 2 ^ 30 → All (λ k. k < MAX_PILOTS) vs → FitSplit enc.front enc.back vs
FitSplit-pilots enc vs few below = split_small enc.front enc.back vs few (all_small vs small)
  where
    -- each pilot has 32 bits
    small : (i : ℕ) → get_or vs i 0 < 2 ^ 32
    small i = elim (cases_lt i (length vs)) [
      | inl within ↦ omega (arith, below i 0 within)
      | inr past ↦ omega (arith, get_or_past vs i 0 past)
    ]

-- the text of pilots is read again
pub pilots_again : (total : ℕ) (enc : Encoding) (number : ℕ) (vs rest : List ℕ) → length vs ≤ 2 ^ 30 → All (λ k. k < MAX_PILOTS) vs →
    pilots_at total enc number (length vs) (pair_text enc vs ++ rest) ≡ Ok (vs, rest)
unfolding pilots_at
pilots_again total enc number vs rest few below =
    let at = total - length (pair_text enc vs ++ rest) in
    let fault = λ (bucket : ℕ). faults.Pilot number bucket in
    ap (λ (r : Result (List ℕ × List ℕ) FormFault). formed r >>= all_below MAX_PILOTS fault)
    (split_again enc.front enc.back at vs rest (FitSplit-pilots enc vs few below))
    ∙ all_below-again MAX_PILOTS fault vs rest below

-- ---- free lists

-- a free list that was read
pub record FreeTaken (n size : ℕ) (bytes vs rest : List ℕ) : Type 0 where
  pub taken : Takes bytes (ef_text vs) rest
  pub count : length vs ≡ size - n
  pub rises : IsNonDecreasing vs
  pub below : All (λ v. v < n) vs

-- what is read as a free list is its text
pub free_takes : (total number n size : ℕ) (bytes vs rest : List ℕ) → IsBytes bytes → size ≤ MAX_POSITIONS →
    free_at total number n size bytes ≡ Ok (vs, rest) → FreeTaken n size bytes vs rest
unfolding free_at
free_takes total number n size bytes vs rest fits few e =
    let at = total - length bytes in
    let fault = λ (place : ℕ). faults.Free number place in
    let a = bind_ok (formed (list_at at (size - n) bytes)) (all_below n fault) (vs, rest) e in
    let b = all_below-ok n fault a.0 (vs, rest) a.2 in
    let read : list_at at (size - n) bytes ≡ Ok (vs, rest) =
    formed_ok (list_at at (size - n) bytes) a.0 a.1 ∙ ap (λ (p : List ℕ × List ℕ). Ok p) b.same in
    let t = list_takes at (size - n) bytes vs rest fits (omega arith) read in
    record {
      taken = record { parts = t.parts; rest_fits = rest_fits bytes (ef_text vs) rest fits t.parts };
      count = t.count_is;
      rises = rises-IsNonDecreasing vs t.rising.rising;
      below = b.below;
    }

-- the text of a free list is read again
pub free_again : (total number n size : ℕ) (vs rest : List ℕ) → IsRising vs → length vs ≡ size - n → All (λ v. v < n) vs →
    free_at total number n size (ef_text vs ++ rest) ≡ Ok (vs, rest)
unfolding free_at
free_again total number n size vs rest rising count below =
    let at = total - length (ef_text vs ++ rest) in
    let fault = λ (place : ℕ). faults.Free number place in
    ap (λ (k : ℕ). formed (list_at at k (ef_text vs ++ rest)) >>= all_below n fault) (sym count)
    ∙ ap (λ (r : Result (List ℕ × List ℕ) FormFault). formed r >>= all_below n fault) (list_again at vs rest rising)
    ∙ all_below-again n fault vs rest below
