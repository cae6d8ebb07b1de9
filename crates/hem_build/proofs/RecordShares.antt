-- The records of a list of keys, share by share.
use Rattle.std.proofs.Common.{◌≡◌, ℕ, zero, suc, ◌+◌, ◌<◌, List, [], ◌∷◌, length, get_or, set}
use Rattle.std.proofs.Common.{sym, ap, ◌∙◌, arith, ⊎_elim}
use Rattle.std.specs.Prelude.{slice_index_or, slice_get, Some}
use Rattle.std.proofs.lemmas.Bool.{cases_eq}
use Rattle.std.proofs.lemmas.List.{length-set, get_or-set_same, get_or-set_other, ext_get_or}
use Rattle.pthash.specs.declared.Record.{Record}
use Rattle.pthash.specs.Hash.{first_hash, second_hash}
use Rattle.pthash.specs.RecordLaws.{record_at_place, length-records_of, get_or-records_of}
use Rattle.pthash.specs.Records.{records_of}
use Rattle.build_outcome.specs.Clash.{key_at}

-- a key that is read is the one at its place
pub key_at_get : (keys : List (List ℕ)) (place : ℕ) (key : List ℕ) → slice_get keys place ≡ Some key → key_at keys place ≡ key
key_at_get [] place key is = absurd cc
key_at_get (k ∷ keys) zero key is = cc
key_at_get (k ∷ keys) (suc place) key is = key_at_get keys place key is

-- the first places of a share have their records
pub record IsHashing (keys : List (List ℕ)) (seed start i : ℕ) (before now : List Record) : Type 0 where
  pub count : length now ≡ length before
  pub each : (k : ℕ) (d : Record) → k < i → slice_index_or now k d ≡ record_at_place (key_at keys (start + k)) seed (start + k)

-- one place more has its record
pub hashing_more : (keys : List (List ℕ)) (seed start i place a b : ℕ) (before now : List Record) (key : List ℕ) →
    IsHashing keys seed start i before now →
    i < length before → place ≡ start + i → slice_get keys place ≡ Some key → a ≡ first_hash key seed → b ≡ second_hash key seed →
    IsHashing keys seed start (i + 1) before (set now i (record { a = a; b = b; ordinal = place }))
hashing_more keys seed start i place a b before now key so_far within at is first second =
    let new : Record = record { a = a; b = b; ordinal = place } in
    let key_is : key ≡ key_at keys (start + i) = sym (key_at_get keys place key is) ∙ ap (key_at keys) at in
    let new_is : new ≡ record_at_place (key_at keys (start + i)) seed (start + i) =
    (λ k. record { a = first k; b = second k; ordinal = at k }) ∙ ap (λ x. record_at_place x seed (start + i)) key_is in
    record {
      count = length-set now i new ∙ so_far.count;
      each = λ k d lower.
          ⊎_elim
          (λ (same : k ≡ i).
          ap (λ n. get_or (set now i new) n d) same ∙ get_or-set_same now i new d (omega (arith, so_far.count)) ∙ new_is
          ∙ ap (λ n. record_at_place (key_at keys (start + n)) seed (start + n)) (sym same))
          (λ (other : k ≡ i → ⊥). get_or-set_other now i k new d other ∙ so_far.each k d (omega (arith, other)))
          (cases_eq k i);
    }

-- where each place has its record, these are the records of the list
pub all_hashed : (keys : List (List ℕ)) (seed : ℕ) (now : List Record) → length now ≡ length keys →
    ((i : ℕ) (d : Record) → i < length keys → slice_index_or now i d ≡ record_at_place (key_at keys i) seed i) → now ≡ records_of keys seed
all_hashed keys seed now count each =
    let none : Record = record { a = 0; b = 0; ordinal = 0 } in
    ext_get_or none now (records_of keys seed) (count ∙ sym (length-records_of keys seed))
    (λ i within. each i none (omega (arith, count)) ∙ sym (get_or-records_of keys seed i none (omega (arith, count))))
