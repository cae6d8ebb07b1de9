-- How the keys of a text are cut off one after another.
use Rattle.std.proofs.Common.{◌≡◌, ◌==◌, ◌<◌, ℕ, Bool, false, List, [], ◌∷◌, ◌++◌, length, refl, ap, ◌∙◌, arith}
use Rattle.std.specs.Prelude.{if◌then◌else◌}
use Rattle.std.proofs.lemmas.Bool.{false_from_ne_true, eqb-true}
use Rattle.std.specs.List.{slice_split, All}
use Rattle.std.proofs.lemmas.List.Elements.{All-from_get_or}
use Rattle.std.proofs.lemmas.List.Splits.{slice_split_at, slice_split_none, length-slice_split}
use Rattle.pth_outside.specs.declared.TheConstants.{LINE_FEED}
use Rattle.pth_outside.specs.Keys.{without_empty_last, keys_of, HasNoFeed}

-- the test for a line feed
abbrev is_feed : ℕ → Bool
is_feed b = b == LINE_FEED

-- no byte passes the test
none_is_feed : (line : List ℕ) → HasNoFeed line → All (λ b. is_feed b ≡ false) line
none_is_feed line none = All-from_get_or (λ b. is_feed b ≡ false) line 0 (λ k within. false_from_ne_true _ (none k (omega arith) within))

-- a piece before others stays
onto_more : (piece : List ℕ) (more : List (List ℕ)) → 0 < length more →
    without_empty_last (piece ∷ more) ≡ piece ∷ without_empty_last more
onto_more piece [] some = absurd (omega arith)
onto_more piece (next ∷ more) some = refl

-- the test for 0 is false above it
not_zero : (n : ℕ) → 0 < n → (n == 0) ≡ false
not_zero n some = false_from_ne_true _ (λ is. let zero : n ≡ 0 = eqb-true n 0 is in omega arith)

-- a lone piece that isn't empty stays
lone : (piece : List ℕ) → 0 < length piece → without_empty_last (piece ∷ []) ≡ piece ∷ []
lone piece some = ap (λ (empty : Bool). if empty then [] else piece ∷ []) (not_zero (length piece) some)

-- no text, no key
pub keys_of-nothing : keys_of [] ≡ []
unfolding keys_of
keys_of-nothing = refl

-- a line with its line feed is the first key
pub keys_of-feed : (line rest : List ℕ) → HasNoFeed line → keys_of (line ++ LINE_FEED ∷ rest) ≡ line ∷ keys_of rest
unfolding keys_of
keys_of-feed line rest none =
    ap without_empty_last (slice_split_at is_feed line LINE_FEED rest (none_is_feed line none) refl)
    ∙ onto_more line (slice_split is_feed rest) (omega (arith, length-slice_split is_feed rest))

-- a line without a line feed is the last key, unless it is empty
pub keys_of-last : (line : List ℕ) → HasNoFeed line → 0 < length line → keys_of line ≡ line ∷ []
unfolding keys_of
keys_of-last line none some = ap without_empty_last (slice_split_none is_feed line (none_is_feed line none)) ∙ lone line some
