-- What is known of the records of a list of keys.
use Rattle.std.specs.Prelude.{◌≡◌, ◌≢◌, ℕ, zero, suc, ◌+◌, ◌^◌, ◌<◌, List, []}
use Rattle.std.specs.Prelude.{◌∷◌, ◌++◌, length, drop, All, AllPairs, Some, slice_get, slice_index_or}
use Rattle.std.proofs.Common.{refl, sym, ap, ◌∙◌, arith}
use Rattle.std.proofs.lemmas.List.{append_assoc}
use Rattle.std.proofs.lemmas.List.Elements.{All-nil, All-cons}
use Rattle.pthash.specs.declared.Record.{Record}
use Rattle.pthash.specs.Hash.{first_hash, second_hash}
use Rattle.pthash.specs.HashLaws.{hash_of-lt}
use Rattle.pthash.specs.Records.{records_from, records_of}
use Rattle.std.specs.Int.{w64, bit_not}

-- both hashes of a record have 64 bits
pub record HashesFit (r : Record) : Type 0 where
  pub a : r.a < 2 ^ 64
  pub b : r.b < 2 ^ 64

-- the record of a key at a seed, if the key has this place
abbrev pub record_at_place : List ℕ → ℕ → ℕ → Record
record_at_place key seed place = record { a = first_hash key seed; b = second_hash key seed; ordinal = place }

-- there are as many records as keys
pub length-records_from : (place : ℕ) (keys : List (List ℕ)) (seed : ℕ) → length (records_from place keys seed) ≡ length keys
length-records_from place [] seed = refl
length-records_from place (key ∷ keys) seed = ap suc (length-records_from (place + 1) keys seed)

-- there are as many records as keys
pub length-records_of : (keys : List (List ℕ)) (seed : ℕ) → length (records_of keys seed) ≡ length keys
length-records_of keys seed = length-records_from 0 keys seed

-- each stands where its key does
pub get_or-records_from : (place : ℕ) (keys : List (List ℕ)) (seed k : ℕ) (d : Record) → k < length keys
    → slice_index_or (records_from place keys seed) k d ≡ record_at_place (slice_index_or keys k []) seed (place + k)
get_or-records_from place [] seed k d within = absurd (omega arith)
get_or-records_from place (key ∷ keys) seed zero d within =
    let same : place ≡ place + 0 = omega arith in
    ap (record_at_place key seed) same
get_or-records_from place (key ∷ keys) seed (suc k) d within =
    let same : place + 1 + k ≡ place + suc k = omega arith in
    get_or-records_from (place + 1) keys seed k d (omega arith) ∙ ap (record_at_place (slice_index_or keys k []) seed) same

-- the record at a place is that of the key there
pub get_or-records_of : (keys : List (List ℕ)) (seed k : ℕ) (d : Record) → k < length keys
    → slice_index_or (records_of keys seed) k d ≡ record_at_place (slice_index_or keys k []) seed k
get_or-records_of keys seed k d within =
    let same : 0 + k ≡ k = omega arith in
    get_or-records_from 0 keys seed k d within ∙ ap (record_at_place (slice_index_or keys k []) seed) same

-- all hashes fit
pub All-HashesFit-records_from : (place : ℕ) (keys : List (List ℕ)) (seed : ℕ) → All HashesFit (records_from place keys seed)
All-HashesFit-records_from place [] seed = All-nil HashesFit
All-HashesFit-records_from place (key ∷ keys) seed =
    All-cons HashesFit (record_at_place key seed place) (records_from (place + 1) keys seed)
    (record { a = hash_of-lt key seed; b = hash_of-lt key (bit_not w64 seed) })
    (All-HashesFit-records_from (place + 1) keys seed)

-- all hashes fit
pub All-HashesFit-records_of : (keys : List (List ℕ)) (seed : ℕ) → All HashesFit (records_of keys seed)
All-HashesFit-records_of keys seed = All-HashesFit-records_from 0 keys seed

-- the records of two lists one after the other
pub records_from-append : (place : ℕ) (xs ys : List (List ℕ)) (seed : ℕ)
    → records_from place (xs ++ ys) seed ≡ records_from place xs seed ++ records_from (place + length xs) ys seed
records_from-append place [] ys seed =
    let same : place ≡ place + 0 = omega arith in
    ap (λ (p : ℕ). records_from p ys seed) same
records_from-append place (x ∷ xs) ys seed =
    let same : place + 1 + length xs ≡ place + suc (length xs) = omega arith in
    ap (λ (rs : List Record). record_at_place x seed place ∷ rs) (records_from-append (place + 1) xs ys seed)
    ∙ ap (λ (p : ℕ). record_at_place x seed place ∷ records_from (place + 1) xs seed ++ records_from p ys seed) same

-- the ordinals are the places, so they differ
pub ordinals_differ : (keys : List (List ℕ)) (seed : ℕ) → AllPairs (λ x y. x.ordinal ≢ y.ordinal) (records_of keys seed)
ordinals_differ keys seed i j d before within =
    let inside : j < length keys = omega (arith, length-records_of keys seed) in
    let first = get_or-records_of keys seed i d (omega arith) in
    let second = get_or-records_of keys seed j d inside in
    λ same.
    let places : i ≡ j = ap (λ (r : Record). r.ordinal) (sym first) ∙ same ∙ ap (λ (r : Record). r.ordinal) second in
    absurd (omega arith)

-- the keys from a place on begin with the one there
drop_at : (keys : List (List ℕ)) (place : ℕ) (key : List ℕ) → slice_get keys place ≡ Some key → drop place keys ≡ key ∷ drop (suc place) keys
drop_at [] place key is = absurd cc
drop_at (k ∷ keys) zero key is = let same : k ≡ key = cc in ap (λ (x : List ℕ). x ∷ keys) same
drop_at (k ∷ keys) (suc place) key is = drop_at keys place key is

-- a record more, where the records of the first keys are known
pub one_more_record : (keys : List (List ℕ)) (seed place a b : ℕ) (records more : List Record) (key : List ℕ) → slice_get keys place ≡ Some key
    → a ≡ first_hash key seed → b ≡ second_hash key seed
    → records_of keys seed ≡ records ++ records_from place (drop place keys) seed
    → more ≡ records ++ record { a = a; b = b; ordinal = place } ∷ []
    → records_of keys seed ≡ more ++ records_from (place + 1) (drop (place + 1) keys) seed
one_more_record keys seed place a b records more key is first second so_far pushed =
    let next : suc place ≡ place + 1 = omega arith in
    let rest = records_from (place + 1) (drop (place + 1) keys) seed in
    let new : Record = record { a = a; b = b; ordinal = place } in
    let here : records_from place (drop place keys) seed ≡ new ∷ rest =
    ap (λ (ks : List (List ℕ)). records_from place ks seed) (drop_at keys place key is ∙ ap (λ (k : ℕ). key ∷ drop k keys) next)
    ∙ sym (λ i. record { a = first i; b = second i; ordinal = place } ∷ rest) in
    so_far ∙ ap (λ (rs : List Record). records ++ rs) here
    ∙ sym (append_assoc records (new ∷ []) rest)
    ∙ ap (λ (rs : List Record). rs ++ rest) (sym pushed)
