-- Lists that grow by one at their end.
use Rattle.std.specs.Prelude.{◌≡◌, ℕ, zero, suc, ◌+◌, ◌<◌, ◌≤◌, List, [], ◌∷◌, ◌++◌, length, map, take, slice_get, Some, sum_by}
use Rattle.std.specs.List.{flat_map}
use Rattle.std.proofs.Common.{get_or, refl, ap, ◌∙◌}
use Rattle.std.proofs.lemmas.List.{take_all}
use Rattle.std.proofs.lemmas.List.Sums.{sum_by_more}
use Rattle.pilot_codecs.specs.declared.code.Encoding.{Encoding}
use Rattle.build_outcome.specs.Index.{IndexData}
use Rattle.build_outcome.specs.IndexLaws.{key_number}
use Rattle.demo_index.specs.Encodings.{all_codes, alone, followed_by, all_encodings}
use Rattle.demo_index.specs.Trials.{sum_of_values}

-- a key that is read is the one at its place
key_at_get : (keys : List (List ℕ)) (i : ℕ) (key : List ℕ) → slice_get keys i ≡ Some key → get_or keys i [] ≡ key
key_at_get [] i key is = absurd cc
key_at_get (k ∷ keys) zero key is = cc
key_at_get (k ∷ keys) (suc i) key is = key_at_get keys i key is

-- the sum of the values of the first keys with one more
pub sum_more : (x : IndexData) (keys : List (List ℕ)) (i : ℕ) (key : List ℕ) → i < length keys → slice_get keys i ≡ Some key →
    sum_of_values x (take (i + 1) keys) ≡ sum_of_values x (take i keys) + key_number x key
unfolding sum_of_values
sum_more x keys i key within at =
    sum_by_more (key_number x) keys i [] within ∙ ap (λ k. sum_by (key_number x) (take i keys) + key_number x k) (key_at_get keys i key at)

-- no key has a sum of 0
pub sum_none : (x : IndexData) → 0 ≡ sum_of_values x []
unfolding sum_of_values
sum_none x = refl

-- all lists are the encodings
pub lists_all : (items : List Encoding) (i : ℕ) → length all_codes ≤ i →
    items ≡ map alone all_codes ++ flat_map (λ front. map (followed_by front) all_codes) (take i all_codes) → items ≡ all_encodings
unfolding all_encodings
lists_all items i past so_far =
    so_far ∙ ap (λ codes. map alone all_codes ++ flat_map (λ front. map (followed_by front) all_codes) codes) (take_all i all_codes past)
