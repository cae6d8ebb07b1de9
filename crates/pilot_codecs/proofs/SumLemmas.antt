-- Sums and steps.
use Rattle.std.proofs.Common.{◌≡◌, ℕ, zero, suc, ◌+◌, ◌*◌, ◌-◌, ◌^◌, ◌<◌, ◌≤◌, true, List, [], ◌∷◌, ◌++◌, length}
use Rattle.std.proofs.Common.{get_or, take, Some, Ok, refl, sym, ap, ◌∙◌}
use Rattle.std.proofs.Common.{subst, arith}
use Rattle.std.specs.List.{slice_get}
use Rattle.std.proofs.lemmas.List.{take_more}
use Rattle.elias_fano.specs.declared.fault.ReadErr.{ReadErr}
use Rattle.elias_fano.specs.declared.fault.ReadErr.TheVariants as errors
use Rattle.elias_fano.specs.Spelling.{rises, last_of, ef_text, IsRising}
use Rattle.elias_fano.specs.Reading.{Fails, list_at}
use Rattle.elias_fano.proofs.CallerLemmas.{IsBytes}
use Rattle.elias_fano.proofs.CallerLemmas.{bind_ok, ok_is, IsTaken, list_takes, list_again}
use Rattle.elias_fano.proofs.CallerLemmas.{rises-parts, rises-yes}
use Rattle.pilot_codecs.specs.Spelling.{greatest, sums_from}
use Rattle.pilot_codecs.specs.Reading.{steps_from, sums_at}

-- the sum of a list
abbrev pub total : List ℕ → ℕ
total [] = 0
total (v ∷ vs) = v + total vs

-- a value behind others is added to their total
total-push : (vs : List ℕ) (v : ℕ) → total (vs ++ v ∷ []) ≡ total vs + v
total-push [] v = omega arith
total-push (x ∷ vs) v = omega (arith, total-push vs v)

-- and its sum stands behind theirs
sums_from-push : (b : ℕ) (vs : List ℕ) (v : ℕ) → sums_from b (vs ++ v ∷ []) ≡ sums_from b vs ++ (b + total vs + v) ∷ []
unfolding sums_from
sums_from-push b [] v = let e : b + v ≡ b + 0 + v = omega arith in ap (λ (x : ℕ). x ∷ []) e
sums_from-push b (x ∷ vs) v = let e : b + x + total vs + v ≡ b + (x + total vs) + v = omega arith in
    ap (λ (ss : List ℕ). (b + x) ∷ ss) (sums_from-push (b + x) vs v ∙ ap (λ (y : ℕ). sums_from (b + x) vs ++ y ∷ []) e)

-- one value more is added to the total
pub total-more : (vs : List ℕ) (i : ℕ) → i < length vs → total (take (i + 1) vs) ≡ total (take i vs) + get_or vs i 0
total-more vs i lt = ap total (take_more vs i 0 lt) ∙ total-push (take i vs) (get_or vs i 0)

-- and its sum stands behind the others
pub sums_from-more : (vs : List ℕ) (i : ℕ) → i < length vs →
    sums_from 0 (take (i + 1) vs) ≡ sums_from 0 (take i vs) ++ (total (take i vs) + get_or vs i 0) ∷ []
sums_from-more vs i lt = let e : 0 + total (take i vs) + get_or vs i 0 ≡ total (take i vs) + get_or vs i 0 = omega arith in
    ap (λ (xs : List ℕ). sums_from 0 xs) (take_more vs i 0 lt) ∙ sums_from-push 0 (take i vs) (get_or vs i 0)
    ∙ ap (λ (x : ℕ). sums_from 0 (take i vs) ++ x ∷ []) e

-- no values have no sums
pub sums_from-nil : [] ≡ sums_from 0 []
unfolding sums_from
sums_from-nil = refl

-- each value has a sum
pub length-sums_from : (b : ℕ) (vs : List ℕ) → length (sums_from b vs) ≡ length vs
unfolding sums_from
length-sums_from b [] = refl
length-sums_from b (v ∷ vs) = ap suc (length-sums_from (b + v) vs)

-- sums don't fall
pub rises-sums_from : (b : ℕ) (vs : List ℕ) → rises b (sums_from b vs) ≡ true
unfolding sums_from rises
rises-sums_from b [] = refl
rises-sums_from b (v ∷ vs) = rises-yes b (b + v) (sums_from (b + v) vs) (omega arith) ∙ rises-sums_from (b + v) vs

-- the last sum is the total
last_of-sums_from : (b : ℕ) (vs : List ℕ) → last_of b (sums_from b vs) ≡ b + total vs
unfolding sums_from last_of
last_of-sums_from b [] = omega arith
last_of-sums_from b (v ∷ vs) = omega (arith, last_of-sums_from (b + v) vs)

-- the total of small values is at most their count times their bound
total-most : (vs : List ℕ) → greatest vs < 2 ^ 32 → total vs ≤ length vs * 2 ^ 32
unfolding greatest
total-most [] small = omega arith
total-most (v ∷ vs) small = omega (arith, small, total-most vs (omega (arith, small)))

-- the sums of small values have a spelling
pub IsRising-sums_from : (vs : List ℕ) → greatest vs < 2 ^ 32 → length vs ≤ 2 ^ 30 → IsRising (sums_from 0 vs)
IsRising-sums_from vs small few = record {
  rising = rises-sums_from 0 vs;
  fits = omega (arith, last_of-sums_from 0 vs, total-most vs small, few);
  few = omega (arith, length-sums_from 0 vs, few);
}

-- the steps of the sums are the values
pub steps_from-sums_from : (b : ℕ) (vs : List ℕ) → steps_from b (sums_from b vs) ≡ vs
unfolding sums_from steps_from
steps_from-sums_from b [] = refl
steps_from-sums_from b (v ∷ vs) = let e : b + v - b ≡ v = omega arith in ap (λ (x : ℕ). x ∷ steps_from (b + v) (sums_from (b + v) vs)) e
    ∙ ap (λ (xs : List ℕ). v ∷ xs) (steps_from-sums_from (b + v) vs)

-- the sums of the steps are the sums
pub sums_from-steps_from : (b : ℕ) (ss : List ℕ) → rises b ss ≡ true → sums_from b (steps_from b ss) ≡ ss
unfolding sums_from steps_from
sums_from-steps_from b [] h = refl
sums_from-steps_from b (s ∷ ss) h =
    let p = rises-parts b s ss h in
    let e : b + (s - b) ≡ s = omega (arith, p.0) in
    ap (λ (x : ℕ). x ∷ sums_from x (steps_from s ss)) e ∙ ap (λ (xs : List ℕ). s ∷ xs) (sums_from-steps_from s ss p.1)

-- each sum has a step
pub length-steps_from : (b : ℕ) (ss : List ℕ) → length (steps_from b ss) ≡ length ss
unfolding steps_from
length-steps_from b [] = refl
length-steps_from b (s ∷ ss) = ap suc (length-steps_from s ss)

-- the first step is the first sum
pub slice_get-steps_first : (ss : List ℕ) → slice_get (steps_from 0 ss) 0 ≡ slice_get ss 0
unfolding steps_from
slice_get-steps_first [] = refl
slice_get-steps_first (s ∷ ss) = ap (λ (x : ℕ). Some x) (omega arith)

-- each other step is a sum less the one before it
pub slice_get-steps : (b : ℕ) (ss : List ℕ) (i s t : ℕ) → slice_get ss i ≡ Some s → slice_get ss (suc i) ≡ Some t →
    slice_get (steps_from b ss) (suc i) ≡ Some (t - s)
unfolding steps_from
slice_get-steps b [] i s t e f = absurd cc
slice_get-steps b (x ∷ []) i s t e f = absurd cc
slice_get-steps b (x ∷ y ∷ ss) zero s t e f = let p : x ≡ s = cc in let q : y ≡ t = cc in ap (λ (z : ℕ). Some z) (omega (arith, p, q))
slice_get-steps b (x ∷ y ∷ ss) (suc i) s t e f = slice_get-steps x (y ∷ ss) i s t e f

-- ---- reading

-- a fault of the sums is that of the list
pub sums_at-fails : (e : ReadErr) (at count : ℕ) (bytes : List ℕ) → Fails e (list_at at count bytes) → Fails e (sums_at at count bytes)
unfolding sums_at
sums_at-fails errors.NoMemory at count bytes h = tt
sums_at-fails (errors.Form f) at count bytes h = rw h refl

-- without a fault the steps are the list
pub sums_at-ok : (at count : ℕ) (bytes ss rest : List ℕ) → list_at at count bytes ≡ Ok (ss, rest) →
    sums_at at count bytes ≡ Ok (steps_from 0 ss, rest)
unfolding sums_at
sums_at-ok at count bytes ss rest h = rw h refl

-- a list that is read stood there as its spelling
pub sums_take : (at count : ℕ) (bytes vs rest : List ℕ) → IsBytes bytes → count ≤ 2 ^ 36 → sums_at at count bytes ≡ Ok (vs, rest) →
    IsTaken bytes count (sums_from 0 vs) rest × (length vs ≡ count)
unfolding sums_at
sums_take at count bytes vs rest fits few e =
    let a = bind_ok (list_at at count bytes) (λ sums. Ok (steps_from 0 sums.0, sums.1)) (vs, rest) e in
    let t = list_takes at count bytes a.0.0 a.0.1 fits few a.1 in
    let back = sums_from-steps_from 0 a.0.0 t.rising.rising in
    let made : IsTaken bytes count (sums_from 0 (steps_from 0 a.0.0)) a.0.1 × (length (steps_from 0 a.0.0) ≡ count) =
    (subst (λ (ss : List ℕ). IsTaken bytes count ss a.0.1) (sym back) t, length-steps_from 0 a.0.0 ∙ t.count_is) in
    subst (λ (p : List ℕ × List ℕ). IsTaken bytes count (sums_from 0 p.0) p.1 × (length p.0 ≡ count)) (ok_is {A = List ℕ × List ℕ} (
      steps_from 0 a.0.0,
      a.0.1,
    ) (vs, rest) a.2) made

-- the spelling of a list is read as that list
pub sums_again : (at : ℕ) (vs rest : List ℕ) → last_of 0 (sums_from 0 vs) < 2 ^ 64 → length vs ≤ 2 ^ 30 →
    sums_at at (length vs) (ef_text (sums_from 0 vs) ++ rest) ≡ Ok (vs, rest)
sums_again at vs rest small few =
    let ss = sums_from 0 vs in
    let n = length-sums_from 0 vs in
    let r : IsRising ss = record { rising = rises-sums_from 0 vs; fits = small; few = omega (arith, n, few) } in
    ap (λ (k : ℕ). sums_at at k (ef_text ss ++ rest)) (sym n) ∙ sums_at-ok at (length ss) (ef_text ss ++ rest) ss rest (list_again at ss rest r)
    ∙ ap (λ (xs : List ℕ). Ok (xs, rest)) (steps_from-sums_from 0 vs)

-- no sum is below the one before it
pub step_up : (b : ℕ) (ss : List ℕ) (i s t : ℕ) → rises b ss ≡ true → slice_get ss i ≡ Some s → slice_get ss (suc i) ≡ Some t → s ≤ t
step_up b [] i s t h e f = absurd cc
step_up b (x ∷ []) i s t h e f = absurd cc
step_up b (x ∷ y ∷ ss) zero s t h e f =
    let p : x ≡ s = cc in
    let q : y ≡ t = cc in
    omega (arith, p, q, (rises-parts x y ss (rises-parts b x (y ∷ ss) h).1).0)
step_up b (x ∷ y ∷ ss) (suc i) s t h e f = step_up x (y ∷ ss) i s t (rises-parts b x (y ∷ ss) h).1 e f
