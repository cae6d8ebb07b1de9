-- What a reading that found no fault says of its steps.
use Rattle.std.specs.Prelude.{◌≡◌, ℕ, ◌<◌, ◌≤◌, ◌⊎◌, Bool, true, false, cond, not, nat_lt, nat_le, List, length, All, Result, Ok, Err}
use Rattle.std.proofs.Common.{refl, ap, subst, inl, inr, arith}
use Rattle.std.proofs.lemmas.Bool.{ltb-false, le-ltb, leb-true, le-leb, and_parts, and_from, not-false}
use Rattle.std.proofs.lemmas.List.Elements.{All-from_get_or}
use Rattle.elias_fano.specs.declared.fault.FormFault.{FormFault}
use Rattle.elias_fano.specs.Values.{below_len}
use Rattle.elias_fano.proofs.CallerLemmas.{below_len-most}
use Rattle.pilot_codecs.proofs.CallerLemmas.{below_each, each_below}
use Rattle.index_text.specs.declared.fault.IndexFault.{IndexFault}
use Rattle.index_text.specs.Faults.{◌>>=◌, formed, all_below}
use Rattle.index_text.specs.Fields.{is_within}

-- the value of a step without a fault
pub bind_ok : {A B : Type 0} (r : Result A IndexFault) (f : A → Result B IndexFault) (y : B) → (r >>= f) ≡ Ok y →
    (x : A) × (r ≡ Ok x) × (f x ≡ Ok y)
bind_ok (Ok x) f y e = (x, refl, e)
bind_ok (Err d) f y e = absurd cc

-- a test for a fault that was none
pub guard_ok : {B : Type 0} (b : Bool) (d : IndexFault) (r : Result B IndexFault) (y : B) → cond b (Err d) r ≡ Ok y → (b ≡ false) × (r ≡ Ok y)
guard_ok true d r y e = absurd cc
guard_ok false d r y e = (refl, e)

-- a test after which nothing is left to do
pub last_ok : {B : Type 0} (b : Bool) (d : IndexFault) (x y : B) → cond b (Ok x) (Err d) ≡ Ok y → (b ≡ true) × (x ≡ y)
last_ok true d x y e = (refl, cc)
last_ok false d x y e = absurd cc

-- a test that gives a value or goes on
pub either_ok : {B : Type 0} (b : Bool) (x : B) (r : Result B IndexFault) (y : B) → cond b (Ok x) r ≡ Ok y →
    ((b ≡ true) × (x ≡ y)) ⊎ ((b ≡ false) × (r ≡ Ok y))
either_ok true x r y e = inl (refl, cc)
either_ok false x r y e = inr (refl, e)

-- a step that ended well
abbrev pub done : {A : Type 0} → A → Result A IndexFault
done x = Ok x

-- what was given is one thing
pub ok_is : {A : Type 0} (x y : A) → done x ≡ done y → x ≡ y
ok_is x y e = cc

-- a list that was read
pub formed_ok : {A : Type 0} (r : Result A FormFault) (y : A) → formed r ≡ Ok y → r ≡ Ok y
formed_ok (Ok x) y e = ap (λ v. Ok v) (ok_is x y e)
formed_ok (Err f) y e = absurd cc

-- what a list says that was found to be below a bound
pub record AreBelow (bound : ℕ) (list y : List ℕ × List ℕ) : Type 0 where
  pub below : All (λ k. k < bound) y.0
  pub same : list ≡ y

-- all values are below a bound, as they are counted
pub all_counted : (bound : ℕ) (vs : List ℕ) → below_len bound vs ≡ length vs → All (λ k. k < bound) vs
all_counted bound vs all = All-from_get_or (λ k. k < bound) vs 0 (λ i within. each_below bound vs i all within)

-- a list that was found to be below a bound
pub all_below-ok : (bound : ℕ) (fault : ℕ → IndexFault) (list y : List ℕ × List ℕ) → all_below bound fault list ≡ Ok y → AreBelow bound list y
all_below-ok bound fault list y e =
    let few = below_len bound list.0 in
    let g = guard_ok (nat_lt few (length list.0)) (fault few) (Ok list) y e in
    let same = ok_is list y g.1 in
    let all : few ≡ length list.0 = omega (arith, ltb-false few (length list.0) g.0, below_len-most bound list.0) in
    record { below = subst (λ (p : List ℕ × List ℕ). All (λ k. k < bound) p.0) same (all_counted bound list.0 all); same = same }

-- a list that is below a bound is found to be
pub all_below-again : (bound : ℕ) (fault : ℕ → IndexFault) (vs rest : List ℕ) → All (λ k. k < bound) vs →
    all_below bound fault (vs, rest) ≡ Ok (vs, rest)
all_below-again bound fault vs rest below =
    let all : below_len bound vs ≡ length vs = below_each bound vs (λ i within. below i 0 within) in
    rw (le-ltb (below_len bound vs) (length vs) (omega arith)) refl

-- a number that was found to be in its range
pub is_within-ok : (least most k : ℕ) → not (is_within least most k) ≡ false → (least ≤ k) × (k ≤ most)
is_within-ok least most k e =
    let both = and_parts (nat_le least k) (nat_le k most) (not-false (is_within least most k) e) in
    (leb-true least k both.0, leb-true k most both.1)

-- a number that is in its range is found to be
pub is_within-again : (least most k : ℕ) → least ≤ k → k ≤ most → not (is_within least most k) ≡ false
is_within-again least most k low high = ap not (and_from (nat_le least k) (nat_le k most) (le-leb least k low) (le-leb k most high))
