-- The seeds that pieces spell.
use Rattle.std.proofs.Common.{◌≡◌, ℕ, ◌+◌, ◌<◌, ◌≤◌, List, [], ◌∷◌, ◌++◌, length, get_or, drop, cond, Option, Some, None, Ok, Err, true}
use Rattle.std.proofs.Common.{false, refl, sym, ap, ◌∙◌, arith, append_assoc, append-nil}
use Rattle.std.specs.Prelude.{◌==◌, nat_le, option_map, option_and_then}
use Rattle.std.specs.List.{slice_split}
use Rattle.std.proofs.lemmas.Bool.Decides.{nat_tests}
use Rattle.std.proofs.lemmas.List.{at_drop_more, at_drop_all}
use Rattle.command_words.specs.declared.kinds.TheConstants.{NUMBER, RANGE}
use Rattle.command_words.specs.declared.number.TheConstants.{COMMA}
use Rattle.settings.specs.declared.settings.TheConstants.{MAX_SEEDS}
use Rattle.command_words.specs.Values.{number_of, numbers_of, few_seeds, seeds_in}

-- numbers after these
abbrev pub after : List ℕ → Option (List ℕ) → Option (List ℕ)
after seeds more = option_map (λ ns. seeds ++ ns) more

-- the pieces of a text between commas
abbrev pub pieces_of : List ℕ → List (List ℕ)
pieces_of text = slice_split (λ b. b == COMMA) text

-- one more piece that spells a number
numbers_of-cons : (piece : List ℕ) (pieces : List (List ℕ)) (n : ℕ) (seeds : List ℕ) → number_of piece ≡ Some n →
    after seeds (numbers_of (piece ∷ pieces)) ≡ after (seeds ++ n ∷ []) (numbers_of pieces)
unfolding numbers_of
numbers_of-cons piece pieces n seeds is =
    rw is (elim (numbers_of pieces) as (λ r. after seeds (option_map (λ ns. n ∷ ns) r) ≡ after (seeds ++ n ∷ []) r) [
      | Some ns ↦ ap Some (sym (append_assoc seeds (n ∷ []) ns))
      | None ↦ refl
    ])

-- what is left to read, after one more piece
pub one_more_seed : (pieces : List (List ℕ)) (k n : ℕ) (piece : List ℕ) (seeds : List ℕ) (all : Option (List ℕ)) →
    (k < length pieces) × (piece ≡ get_or pieces k piece) → Some n ≡ number_of piece →
    after seeds (numbers_of (drop k pieces)) ≡ all → after (seeds ++ n ∷ []) (numbers_of (drop (k + 1) pieces)) ≡ all
one_more_seed pieces k n piece seeds all at spelled so_far =
    sym (at_drop_more (λ ps. after seeds (numbers_of ps)) pieces k piece at.0
    ∙ ap (λ p. after seeds (numbers_of (p ∷ drop (k + 1) pieces))) (sym at.1)
    ∙ numbers_of-cons piece (drop (k + 1) pieces) n seeds (sym spelled)) ∙ so_far

-- no seeds where a piece spells no number
pub no_seed : (text : List ℕ) (k : ℕ) (piece : List ℕ) (seeds : List ℕ) →
    (k < length (pieces_of text)) × (piece ≡ get_or (pieces_of text) k piece) → None ≡ number_of piece →
    after seeds (numbers_of (drop k (pieces_of text))) ≡ numbers_of (pieces_of text) → seeds_in text ≡ Err NUMBER
unfolding seeds_in numbers_of
no_seed text k piece seeds at none so_far =
    let pieces = pieces_of text in
    let rest : numbers_of (drop k pieces) ≡ None =
    at_drop_more numbers_of pieces k piece at.0
    ∙ ap (λ p. numbers_of (p ∷ drop (k + 1) pieces)) (sym at.1)
    ∙ ap (λ r. option_and_then (λ n. option_map (λ ns. n ∷ ns) (numbers_of (drop (k + 1) pieces))) r) (sym none) in
    ap few_seeds (sym so_far ∙ ap (after seeds) rest)

-- all pieces are read
all_seeds : (text : List ℕ) (k : ℕ) (seeds : List ℕ) → length (pieces_of text) ≤ k →
    after seeds (numbers_of (drop k (pieces_of text))) ≡ numbers_of (pieces_of text) →
    numbers_of (pieces_of text) ≡ Some seeds
unfolding numbers_of
all_seeds text k seeds end so_far =
    let nothing : drop k (pieces_of text) ≡ [] = at_drop_all (λ ps. ps) (pieces_of text) k end in
    sym so_far ∙ ap (λ ps. after seeds (numbers_of ps)) nothing ∙ grind (arith, append-nil)

-- not too many seeds
pub few : (text : List ℕ) (k : ℕ) (seeds : List ℕ) → length (pieces_of text) ≤ k →
    after seeds (numbers_of (drop k (pieces_of text))) ≡ numbers_of (pieces_of text) → length seeds ≤ MAX_SEEDS →
    seeds_in text ≡ Ok seeds
unfolding seeds_in
few text k seeds end so_far small =
    let fits : nat_le (length seeds) MAX_SEEDS ≡ true = grind (arith, nat_tests) in
    ap few_seeds (all_seeds text k seeds end so_far) ∙ ap (λ b. cond b (Ok seeds) (Err RANGE)) fits

-- too many seeds
pub many : (text : List ℕ) (k : ℕ) (seeds : List ℕ) → length (pieces_of text) ≤ k →
    after seeds (numbers_of (drop k (pieces_of text))) ≡ numbers_of (pieces_of text) → MAX_SEEDS < length seeds →
    seeds_in text ≡ Err RANGE
unfolding seeds_in
many text k seeds end so_far large =
    let over : nat_le (length seeds) MAX_SEEDS ≡ false = grind (arith, nat_tests) in
    ap few_seeds (all_seeds text k seeds end so_far) ∙ ap (λ b. cond b (Ok seeds) (Err RANGE)) over
