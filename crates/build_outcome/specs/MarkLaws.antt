-- The mark of a list of keys doesn't depend on their order.
use Rattle.std.specs.Prelude.{◌≡◌, ℕ, zero, suc, ◌%◌, ◌^◌, ◌<◌, List, [], ◌∷◌, length, slice_index_or, slice_set, sum_by, bit_xor}
use Rattle.std.specs.List.{swap}
use Rattle.std.specs.List.Sorted.{IsPermutation}
use Rattle.std.specs.Int.{w64, bit_not}
use Rattle.std.specs.Int.Bits.{xor_assoc, xor_self, xor_zero_r}
use Rattle.std.proofs.Common.{refl, sym, ap, ◌∙◌, subst, arith, ⊎_elim}
use Rattle.std.proofs.Math.Nat.{mod-lt}
use Rattle.std.proofs.lemmas.Bool.{cases_eq}
use Rattle.std.proofs.lemmas.List.{length-set, get_or-set_same, get_or-set_other}
use Rattle.std.proofs.lemmas.List.Sorted.{IsPermutation-keeps, sum_by-IsPermutation}
use Rattle.std.proofs.lemmas.Nat.{xor_comm, xor_lt}
use Rattle.pthash.specs.Hash.{first_hash, second_hash}
use Rattle.pthash.specs.HashLaws.{hash_of-lt}
use Rattle.build_outcome.specs.Mark.{xor_of, mark_of}
use Rattle.build_outcome.specs.Validity.{IsMark}

-- the xor has 64 bits
xor_of-lt : (keys : List (List ℕ)) (seed : ℕ) → xor_of keys seed < 2 ^ 64
xor_of-lt [] seed = omega arith
xor_of-lt (key ∷ keys) seed = xor_lt 64 (second_hash key seed) (xor_of keys seed) (hash_of-lt key (bit_not w64 seed)) (xor_of-lt keys seed)

-- the mark of a list of keys is a mark
pub IsMark-mark_of : (keys : List (List ℕ)) (seed : ℕ) → IsMark (mark_of keys seed)
unfolding mark_of
IsMark-mark_of keys seed = record { sum = mod-lt (sum_by (λ key. first_hash key seed) keys) (omega arith); xor = xor_of-lt keys seed }

-- two xors by the same number are the same only at the same number
xor_cancel : (a b c : ℕ) → bit_xor a c ≡ bit_xor b c → a ≡ b
xor_cancel a b c same = sym (twice a c) ∙ ap (λ x. bit_xor x c) same ∙ twice b c
  where
    twice : (x y : ℕ) → bit_xor (bit_xor x y) y ≡ x
    twice x y = xor_assoc x y y ∙ ap (bit_xor x) (xor_self y) ∙ xor_zero_r x

-- the first and the last of three may change places
xor_turned : (a b c : ℕ) → bit_xor (bit_xor a b) c ≡ bit_xor (bit_xor c b) a
xor_turned a b c = xor_assoc a b c ∙ xor_comm a (bit_xor b c) ∙ ap (λ x. bit_xor x a) (xor_comm b c)

-- a key in another's place changes the xor by both
xor_of-set : (keys : List (List ℕ)) (seed i : ℕ) (key d : List ℕ) → i < length keys →
    bit_xor (xor_of (slice_set keys i key) seed) (second_hash (slice_index_or keys i d) seed) ≡ bit_xor (xor_of keys seed) (second_hash key seed)
xor_of-set [] seed i key d within = absurd (omega arith)
xor_of-set (k ∷ keys) seed zero key d within = xor_turned (second_hash key seed) (xor_of keys seed) (second_hash k seed)
xor_of-set (k ∷ keys) seed (suc i) key d within =
    xor_assoc (second_hash k seed) (xor_of (slice_set keys i key) seed) (second_hash (slice_index_or keys i d) seed)
    ∙ ap (bit_xor (second_hash k seed)) (xor_of-set keys seed i key d (omega arith))
    ∙ sym (xor_assoc (second_hash k seed) (xor_of keys seed) (second_hash key seed))

-- a key that was written before another place, read there
read_at_other : (keys : List (List ℕ)) (i j : ℕ) (d : List ℕ) → i < length keys →
    slice_index_or (slice_set keys i (slice_index_or keys j d)) j d ≡ slice_index_or keys j d
read_at_other keys i j d within =
    ⊎_elim
    (λ (same : i ≡ j).
    subst (λ k. slice_index_or (slice_set keys i (slice_index_or keys k d)) k d ≡ slice_index_or keys k d) same
    (get_or-set_same keys i (slice_index_or keys i d) d within))
    (λ (other : i ≡ j → ⊥). get_or-set_other keys i j (slice_index_or keys j d) d (λ e. other (sym e)))
    (cases_eq i j)

-- two keys that change places leave the xor
xor_of-swap : (keys : List (List ℕ)) (seed i j : ℕ) → i < length keys → j < length keys → xor_of (swap keys i j) seed ≡ xor_of keys seed
xor_of-swap [] seed i j first second = refl
xor_of-swap (d ∷ ys) seed i j first second =
    let keys : List (List ℕ) = d ∷ ys in
    let a : List ℕ = slice_index_or keys i d in
    let b : List ℕ = slice_index_or keys j d in
    let once : List (List ℕ) = slice_set keys i b in
    let count : length once ≡ length keys = length-set keys i b in
    xor_cancel (xor_of (slice_set once j a) seed) (xor_of keys seed) (second_hash b seed)
    (ap (λ k. bit_xor (xor_of (slice_set once j a) seed) (second_hash k seed)) (sym (read_at_other keys i j d first))
    ∙ xor_of-set once seed j a d (omega arith)
    ∙ xor_of-set keys seed i b d first)

-- the mark doesn't depend on the order of the keys
pub mark_of-IsPermutation : (keys others : List (List ℕ)) (seed : ℕ) → IsPermutation keys others → mark_of keys seed ≡ mark_of others seed
unfolding mark_of
mark_of-IsPermutation keys others seed moved =
    let sums : sum_by (λ key. first_hash key seed) others ≡ sum_by (λ key. first_hash key seed) keys =
    sum_by-IsPermutation (λ (key : List ℕ). first_hash key seed) keys others moved in
    let xors : xor_of others seed ≡ xor_of keys seed =
    IsPermutation-keeps keys (λ ks. xor_of ks seed ≡ xor_of keys seed) refl
    (λ ks i j first second same. xor_of-swap ks seed i j first second ∙ same) others moved in
    λ i. record { sum = sym sums i % 2 ^ 64; xor = sym xors i }
