-- Sums of the numbers of keys of the first partitions, and the sums before each.
use Rattle.std.specs.Prelude.{◌≡◌, ℕ, ◌+◌, ◌*◌, ◌<◌, ◌≤◌, List, [], ◌∷◌, ◌++◌, length, take, drop, sum}
use Rattle.std.proofs.Common.{get_or, refl, sym, ap, ◌∙◌, append_assoc, drop-cons, add-one, arith}
use Rattle.std.proofs.lemmas.List.Sums.{sum_by_more}
use Rattle.index_file.specs.Starts.{starts_from}

-- a number is the sum of the first i numbers of keys
pub record IsTotal (counts : List ℕ) (i total : ℕ) : Type 0 where
  pub is : total ≡ sum (take i counts)
  pub most : total ≤ i * 67108864

-- the sum of none
pub total_first : (counts : List ℕ) → IsTotal counts 0 0
total_first counts = record { is = refl; most = omega arith }

-- the sum of one more
pub total_more : (counts : List ℕ) (i total : ℕ) → i < length counts → get_or counts i 0 < 67108865 → IsTotal counts i total →
    IsTotal counts (i + 1) (total + get_or counts i 0)
total_more counts i total within few so_far =
    record { is = omega (arith, so_far.is, sum_by_more (λ (k : ℕ). k) counts i 0 within); most = omega (arith, so_far.most) }

-- the sums before the first i partitions, and those that come
pub record AreStarts (counts : List ℕ) (i total : ℕ) (starts : List ℕ) : Type 0 where
  pub sums : IsTotal counts i total
  pub are : starts ++ starts_from total (drop i counts) ≡ starts_from 0 counts

-- no sums yet
pub starts_first : (counts : List ℕ) → AreStarts counts 0 0 []
starts_first counts = record { sums = total_first counts; are = refl }

-- one sum more
pub starts_more : (counts : List ℕ) (i total : ℕ) (starts : List ℕ) → i < length counts → get_or counts i 0 < 67108865 →
    AreStarts counts i total starts →
    AreStarts counts (i + 1) (total + get_or counts i 0) (starts ++ total ∷ [])
unfolding starts_from
starts_more counts i total starts within few so_far =
    let next : drop i counts ≡ get_or counts i 0 ∷ drop (i + 1) counts =
    drop-cons counts i 0 within ∙ ap (λ (k : ℕ). get_or counts i 0 ∷ drop k counts) (sym (add-one i)) in
    record {
      sums = total_more counts i total within few so_far.sums;
      are = append_assoc starts (total ∷ []) (starts_from (total + get_or counts i 0) (drop (i + 1) counts))
          ∙ ap (λ (ks : List ℕ). starts ++ starts_from total ks) (sym next) ∙ so_far.are;
    }

-- all sums
pub starts_all : (counts : List ℕ) (i total : ℕ) (starts : List ℕ) → length counts ≤ i → AreStarts counts i total starts →
    starts ≡ starts_from 0 counts
unfolding starts_from
starts_all counts i total starts past so_far =
    let none : drop i counts ≡ [] = Rattle.std.proofs.lemmas.List.nil_from_length (drop i counts)
    (omega (arith, Rattle.std.proofs.lemmas.List.length-drop i counts)) in
    sym (Rattle.std.proofs.Common.append-nil starts) ∙ ap (λ (ks : List ℕ). starts ++ starts_from total ks) (sym none) ∙ so_far.are
