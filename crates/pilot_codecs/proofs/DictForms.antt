-- What each step of reading a dictionary gives.
use Rattle.std.proofs.Common.{◌≡◌, ℕ, ◌+◌, ◌*◌, ◌-◌, ◌<◌, ◌≤◌, true, false, ltb, List, length, take, drop, Ok, Err, refl, ap}
use Rattle.std.proofs.Common.{◌∙◌, inl, inr, arith}
use Rattle.std.specs.Prelude.{◌⊎◌}
use Rattle.std.proofs.lemmas.Bool.{lt-ltb, le-ltb, eq-eqb, ne_eqb}
use Rattle.std.proofs.lemmas.List.{take_rest}
use Rattle.elias_fano.specs.declared.fault.ReadErr.{ReadErr}
use Rattle.elias_fano.specs.declared.fault.ReadErr.TheVariants as errors
use Rattle.elias_fano.specs.Reading.{Fails, fault, number_at, words_in}
use Rattle.pilot_codecs.specs.Reading.{compact_at, rise_len, are_below, are_used, looked_up, used_at, indexed_at, entries_at, dict_at}

-- an index that isn't below the size is the first fault of the indexes
pub used_at-below : (at : ℕ) (ds places : List ℕ) → are_below (length ds) places ≡ false →
    used_at at ds places ≡ Err (fault (at + 8 + 8 * length ds + 8) 5)
unfolding used_at
used_at-below at ds places b = rw b refl

-- then an entry that no index names
pub used_at-used : (at : ℕ) (ds places : List ℕ) → are_below (length ds) places ≡ true → are_used (length ds) places ≡ false →
    used_at at ds places ≡ Err (fault at 5)
unfolding used_at
used_at-used at ds places b u = rw (b, u) refl

-- without a fault each index gives its entry
pub used_at-ok : (at : ℕ) (ds places : List ℕ) → are_below (length ds) places ≡ true → are_used (length ds) places ≡ true →
    used_at at ds places ≡ Ok (looked_up ds places)
unfolding used_at
used_at-ok at ds places b u = rw (b, u) refl

-- a fault of the indexes' spelling is that of the list
pub indexed_at-places : (e : ReadErr) (at count : ℕ) (ds bytes : List ℕ) → Fails e (compact_at (at + 8 + 8 * length ds) count bytes) →
    Fails e (indexed_at at count ds bytes)
unfolding indexed_at
indexed_at-places errors.NoMemory at count ds bytes h = tt
indexed_at-places (errors.Form f) at count ds bytes h = rw h refl

-- so is one of what they say
pub indexed_at-used : (e : ReadErr) (at count : ℕ) (ds bytes places rest : List ℕ) →
    compact_at (at + 8 + 8 * length ds) count bytes ≡ Ok (places, rest) →
    Fails e (used_at at ds places) → Fails e (indexed_at at count ds bytes)
unfolding indexed_at
indexed_at-used errors.NoMemory at count ds bytes places rest p h = tt
indexed_at-used (errors.Form f) at count ds bytes places rest p h = rw (p, h) refl

-- without a fault the list is read
pub indexed_at-ok : (at count : ℕ) (ds bytes places rest vs : List ℕ) → compact_at (at + 8 + 8 * length ds) count bytes ≡ Ok (places, rest) →
    used_at at ds places ≡ Ok vs → indexed_at at count ds bytes ≡ Ok (vs, rest)
unfolding indexed_at
indexed_at-ok at count ds bytes places rest vs p h = rw (p, h) refl

-- the entries are short where the bytes end before them
pub entries_at-short : (at count size : ℕ) (bytes : List ℕ) → length bytes < 8 * size → entries_at at count size bytes ≡ Err (fault (at + 8) 1)
unfolding entries_at
entries_at-short at count size bytes lt = rw (lt-ltb (length bytes) (8 * size) lt) refl

-- then an entry that isn't above the one before it is the fault
pub entries_at-order : (at count size r : ℕ) (bytes ds : List ℕ) → 8 * size ≤ length bytes → ds ≡ words_in size bytes → r ≡ rise_len ds →
    r < size →
    entries_at at count size bytes ≡ Err (fault (at + 8 + 8 * r) 4)
unfolding entries_at
entries_at-order at count size r bytes ds le e s lt =
    let same : r ≡ rise_len (words_in size bytes) = s ∙ ap rise_len e in
    rw (le-ltb (length bytes) (8 * size) le, ← same, lt-ltb r size lt) refl

-- behind entries that rise the indexes follow
pub entries_at-rest : (at count size : ℕ) (bytes ds : List ℕ) → 8 * size ≤ length bytes → ds ≡ words_in size bytes → size ≤ rise_len ds →
    entries_at at count size bytes ≡ indexed_at at count ds (take (length bytes - 8 * size) (drop (8 * size) bytes))
unfolding entries_at
entries_at-rest at count size bytes ds le e up =
    let risen : ltb (rise_len (words_in size bytes)) size ≡ false = le-ltb _ _ (omega (arith, ap rise_len e, up)) in
    rw (le-ltb (length bytes) (8 * size) le, risen, take_rest bytes (8 * size), ← e) refl

-- a fault of the size's field is that of the list
pub dict_at-number : (e : ReadErr) (at count : ℕ) (bytes : List ℕ) → Fails e (number_at at bytes) → Fails e (dict_at at count bytes)
unfolding dict_at
dict_at-number errors.NoMemory at count bytes h = tt
dict_at-number (errors.Form f) at count bytes h = rw h refl

-- a size above the count, or 0 for some values, is a fault
pub dict_at-size : (at count size : ℕ) (bytes rest : List ℕ) → number_at at bytes ≡ Ok (size, rest) →
    (count < size) ⊎ ((size ≡ 0) × (count ≡ 0 → ⊥)) →
    dict_at at count bytes ≡ Err (fault at 5)
unfolding dict_at
dict_at-size at count size bytes rest n h =
    elim h [
      | inl lt ↦ rw (n, lt-ltb count size lt) refl
      | inr p ↦ rw (n, le-ltb count size (omega (arith, p.0)), eq-eqb size 0 p.0, ne_eqb count 0 p.1) refl
    ]

-- otherwise the entries follow
pub dict_at-entries : (at count size : ℕ) (bytes rest : List ℕ) → number_at at bytes ≡ Ok (size, rest) → size ≤ count →
    ((size ≡ 0) × (count ≡ 0)) ⊎ (size ≡ 0 → ⊥) → dict_at at count bytes ≡ entries_at at count size rest
unfolding dict_at
dict_at-entries at count size bytes rest n le h =
    elim h [
      | inl p ↦ rw (n, le-ltb count size le, eq-eqb size 0 p.0, eq-eqb count 0 p.1) refl
      | inr other ↦ rw (n, le-ltb count size le, ne_eqb size 0 other) refl
    ]
