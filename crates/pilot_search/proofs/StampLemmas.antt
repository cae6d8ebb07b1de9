-- Stamps that are cleared, given and set.
use Rattle.std.proofs.Common.{◌≡◌, ◌+◌, ◌<◌, ◌≤◌, ◌||◌, ◌++◌, ◌∷◌, ◌∙◌}
use Rattle.std.proofs.Common.{ℕ, List, [], Bool, true, false, length, refl, sym, ap, arith, ⊎_elim}
use Rattle.std.specs.Prelude.{nat_eq, replicate, slice_index, slice_set}
use Rattle.std.proofs.Math.Bool.{or-true}
use Rattle.std.proofs.lemmas.Bool.{cases_eq, cases_lt, eq-eqb, ne_eqb}
use Rattle.std.proofs.lemmas.List.{get_or-replicate, get_or-set_other, get_or-set_same, get_or_past, length-replicate}
use Rattle.std.proofs.lemmas.List.Folds.{list_any-append}
use Rattle.pthash.specs.Search.{is_among}
use Rattle.pilot_search.specs.Stamping.{AreStamped, AreUpTo}

-- stamps that are cleared
pub cleared : (n last : ℕ) → AreUpTo last (replicate n 0)
cleared n last = record {
  each = λ p.
      let none : slice_index (replicate n 0) p ≡ 0 =
      ⊎_elim
      (λ (lower : p < n). get_or-replicate n p 0 0 lower)
      (λ (higher : n ≤ p). get_or_past (replicate n 0) p 0 (omega (arith, length-replicate {A = ℕ} n 0)))
      (cases_lt p n) in
      omega (arith, none);
}

-- the stamp after the last one is held by no position
pub next_unheld : (stamps : List ℕ) (last : ℕ) → AreUpTo last stamps → AreStamped stamps (last + 1) []
next_unheld stamps last known = record {
  some = omega arith;
  last = record { each = λ p. omega (arith, known.each p) };
  held = λ p. ne_eqb (slice_index stamps p) (last + 1) (λ same. omega (arith, same, known.each p));
}

-- one more position is stamped
pub stamped_more : (stamps positions : List ℕ) (stamp p : ℕ) → p < length stamps → AreStamped stamps stamp positions →
    AreStamped (slice_set stamps p stamp) stamp (positions ++ p ∷ [])
stamped_more stamps positions stamp p in_range so_far = record {
  some = so_far.some;
  last = record {
    each = λ q.
        ⊎_elim
        (λ (here : q ≡ p). omega (arith, is_here q here))
        (λ (other : q ≡ p → ⊥). omega (arith, get_or-set_other stamps p q stamp 0 other, so_far.last.each q))
        (cases_eq q p);
  };
  held = λ q.
      ⊎_elim
      (λ (here : q ≡ p).
      eq-eqb (slice_index (slice_set stamps p stamp) q) stamp (is_here q here)
      ∙ sym (split q ∙ ap (λ b. is_among positions q || (b || false)) (eq-eqb p q (sym here)) ∙ or-true (is_among positions q)))
      (λ (other : q ≡ p → ⊥).
      ap (λ s. nat_eq s stamp) (get_or-set_other stamps p q stamp 0 other)
      ∙ so_far.held q
      ∙ sym (split q ∙ ap (λ b. is_among positions q || (b || false)) (ne_eqb p q (λ e. other (sym e))) ∙ or_false (is_among positions q)))
      (cases_eq q p);
}
  where
    is_here : (q : ℕ) → q ≡ p → slice_index (slice_set stamps p stamp) q ≡ stamp
    is_here q here = ap (slice_index (slice_set stamps p stamp)) here ∙ get_or-set_same stamps p stamp 0 in_range

    split : (q : ℕ) → is_among (positions ++ p ∷ []) q ≡ (is_among positions q || (nat_eq p q || false))
    split q = list_any-append (λ z. nat_eq z q) positions (p ∷ [])

    or_false : (b : Bool) → (b || (false || false)) ≡ b
    or_false true = refl
    or_false false = refl
