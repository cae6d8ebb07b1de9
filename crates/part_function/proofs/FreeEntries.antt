-- The entries of a free list are found one after another.
use Rattle.std.proofs.Common.{◌≡◌, ℕ, zero, suc, ◌+◌, ◌-◌, ◌≤◌, min, Bool, true, false}
use Rattle.std.proofs.Common.{List, [], ◌∷◌, ◌++◌, length, map, refl, sym, ap, ◌∙◌, arith}
use mir.Val.{bool_byte}
use Rattle.std.specs.Prelude.{slice_index}
use Rattle.std.proofs.lemmas.List.{map-append}
use Rattle.pthash.specs.Order.{numbers_below}
use Rattle.pthash.specs.ApartCounts.{one_if}
use Rattle.build_outcome.specs.FreeList.{free_below, taken_from, free_entry, free_list_of}
use Rattle.build_outcome.specs.FreeListLaws.{taken_from-suc}

-- a truth value as a number
pub bool_byte-one_if : (b : Bool) → bool_byte b ≡ one_if b
bool_byte-one_if true = refl
bool_byte-one_if false = refl

-- the entries of the first k positions from n on
pub record AreEntries (is_taken : ℕ → Bool) (n k rank : ℕ) (entries : List ℕ) : Type 0 where
  pub rank_is : rank ≡ taken_from is_taken n k
  pub few : rank ≤ k
  pub are : entries ≡ map (free_entry is_taken n) (numbers_below k)

-- no entry yet
pub no_entry : (is_taken : ℕ → Bool) (n k : ℕ) (entries : List ℕ) → k ≡ 0 → entries ≡ [] → AreEntries is_taken n k 0 entries
unfolding numbers_below
no_entry is_taken n zero entries none empty = record { rank_is = refl; few = omega arith; are = empty }
no_entry is_taken n (suc k) entries none empty = absurd (omega arith)

-- one entry more
pub one_more_entry : (is_taken : ℕ → Bool) (n place rank step entry : ℕ) (free entries more : List ℕ) → n ≤ place →
    free ≡ free_below is_taken n →
    entry ≡ slice_index free (min rank (length free - 1)) → step ≡ one_if (is_taken place) → more ≡ entries ++ entry ∷ [] →
    AreEntries is_taken n (place - n) rank entries → AreEntries is_taken n (place + 1 - n) (rank + step) more
unfolding numbers_below
one_more_entry is_taken n place rank step entry free entries more after free_are is counted pushed so_far =
    let k : ℕ = place - n in
    let there : n + k ≡ place = omega arith in
    let next : place + 1 - n ≡ suc k = omega arith in
    let ranked : taken_from is_taken n (suc k) ≡ rank + one_if (is_taken place) =
    taken_from-suc is_taken n k ∙ ap (λ r. r + one_if (is_taken (n + k))) (sym so_far.rank_is) ∙ ap (λ p. rank + one_if (is_taken p)) there in
    let here : entry ≡ free_entry is_taken n k =
    is ∙ ap (λ fs. slice_index fs (min rank (length fs - 1))) free_are
    ∙ ap (λ r. slice_index (free_below is_taken n) (min r (length (free_below is_taken n) - 1))) so_far.rank_is in
    let listed : map (free_entry is_taken n) (numbers_below (suc k)) ≡ entries ++ entry ∷ [] =
    map-append (free_entry is_taken n) (numbers_below k) (k ∷ []) ∙ (λ i. sym so_far.are i ++ sym here i ∷ []) in
    record {
      rank_is = ap (λ s. rank + s) counted ∙ sym ranked ∙ ap (taken_from is_taken n) (sym next);
      few = at_most_one (is_taken place) counted;
      are = pushed ∙ sym listed ∙ ap (λ j. map (free_entry is_taken n) (numbers_below j)) (sym next);
    }
  where
    at_most_one : (b : Bool) → step ≡ one_if b → rank + step ≤ place + 1 - n
    at_most_one true is_one = omega (arith, so_far.few)
    at_most_one false is_none = omega (arith, so_far.few)

-- all entries
pub all_entries : (is_taken : ℕ → Bool) (n place size rank : ℕ) (entries : List ℕ) → place ≡ size →
    AreEntries is_taken n (place - n) rank entries →
    entries ≡ free_list_of is_taken n size
unfolding free_list_of
all_entries is_taken n place size rank entries end so_far = so_far.are ∙ ap (λ p. map (free_entry is_taken n) (numbers_below (p - n))) end
