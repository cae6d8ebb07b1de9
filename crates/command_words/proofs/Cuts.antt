-- Where texts are cut.
use Rattle.std.proofs.Common.{◌≡◌, ℕ, ◌<◌, List, length, cond, eqb, Option, Some, None, true, false, refl, sym, ap, ◌∙◌, arith}
use Rattle.std.specs.Prelude.{nat_lt, option_map, MatchOption}
use Rattle.std.specs.List.{position_or_len, before_first, after_first}
use Rattle.std.proofs.lemmas.Bool.Decides.{nat_tests}
use Rattle.std.proofs.lemmas.Str.Pattern.{IsSplitOnceResult, split_once_first}
use denote.Ref.{Bor}
use Rattle.command_words.specs.Values.{cut_at}

-- the two parts that references point to
abbrev pub parts_of : Bor (List ℕ) × Bor (List ℕ) → List ℕ × List ℕ
parts_of x = (x.0.now, x.1.now)

-- `split_once` cuts at the first such byte
pub cut_at-split : (c : ℕ) (bs : List ℕ) (r : Option (Bor (List ℕ) × Bor (List ℕ))) → IsSplitOnceResult c bs r →
    c < 128 → cut_at c bs ≡ option_map parts_of r
unfolding cut_at
cut_at-split c bs r split ascii =
    elim r as (λ r. MatchOption r (position_or_len (λ b. eqb b c) bs ≡ length bs)
    (λ x. (position_or_len (λ b. eqb b c) bs < length bs) × (x.0.now ≡ before_first (λ b. eqb b c) bs) ×
    (x.1.now ≡ after_first (λ b. eqb b c) bs)) → cond (nat_lt (position_or_len (λ b. eqb b c) bs) (length bs)) (Some
    (before_first (λ b. eqb b c) bs, after_first (λ b. eqb b c) bs)) None ≡ option_map parts_of r) [
      | Some x ↦ λ h. let inside : nat_lt (position_or_len (λ b. eqb b c) bs) (length bs) ≡ true = grind (arith, nat_tests) in
          rw inside (rw (sym h.1, sym h.2) refl)
      | None ↦ λ h. let outside : nat_lt (position_or_len (λ b. eqb b c) bs) (length bs) ≡ false = grind (arith, nat_tests) in
          rw outside refl
    ] (split_once_first c bs r split ascii)

-- a cut by `split_once`, where there is none
pub no_cut : (c : ℕ) (bs : List ℕ) (r : Option (Bor (List ℕ) × Bor (List ℕ))) → IsSplitOnceResult c bs r →
    c < 128 → r ≡ None → cut_at c bs ≡ None
no_cut c bs r split ascii is = cut_at-split c bs r split ascii ∙ ap (option_map parts_of) is

-- a cut by `split_once`, where there is one
pub one_cut : (c : ℕ) (bs : List ℕ) (r : Option (Bor (List ℕ) × Bor (List ℕ))) → IsSplitOnceResult c bs r →
    c < 128 → (front back : Bor (List ℕ)) → r ≡ Some (front, back) → cut_at c bs ≡ Some (front.now, back.now)
one_cut c bs r split ascii front back is = cut_at-split c bs r split ascii ∙ ap (option_map parts_of) is
