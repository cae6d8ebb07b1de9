-- Too few bytes for the first words of a list are told before memory is taken.
use Rattle.std.proofs.Common.{◌≡◌, ℕ, zero, suc, ◌+◌, ◌*◌, ◌-◌, ◌^◌, ◌<◌, ◌≤◌, min, cond, eqb, ltb, List}
use Rattle.std.proofs.Common.{◌∷◌, ◌++◌, length, take, drop}
use Rattle.std.proofs.Common.{Result, Ok, Err, refl, sym, ap, ◌∙◌, inl, inr, arith}
use Rattle.std.specs.Prelude.{not, ◌||◌, ◌⊎◌}
use Rattle.std.specs.List.{flat_map}
use Rattle.std.specs.Int.{w64, from_le_bytes}
use Rattle.std.proofs.lemmas.Bool.{ltb-true}
use Rattle.std.proofs.lemmas.List.{length-append}
use Rattle.bit_vector.specs.Bits.{bits_of_each, words_number, words_for}
use Rattle.bit_vector.proofs.CallerLemmas.{length-bits_of_each}
use Rattle.elias_fano.specs.declared.fault.FormFault.{FormFault}
use Rattle.elias_fano.specs.declared.fault.ReadErr.{ReadErr}
use Rattle.elias_fano.specs.declared.fault.ReadErr.TheVariants as errors
use Rattle.elias_fano.specs.Spelling.{number, run}
use Rattle.elias_fano.specs.Reading.{◌>>=◌, Gives, HidesNoShort, LacksMemory, TellsShort, fault, number_at, words_in, list_at}
use Rattle.elias_fano.proofs.CallerLemmas.{IsBytes, length-words_in, length-run, bind_err, guard_err, guard_last_err, not_both, other_kind, tells}
use Rattle.pilot_codecs.specs.Spelling.{digits_of, greatest, groups_for, compact_text}
use Rattle.pilot_codecs.specs.Reading.{fields_in, packed_at, compact_at, groups_at, parted_at, rise_len, are_below, are_used, looked_up, used_at, indexed_at}
use Rattle.pilot_codecs.specs.Reading.{entries_at, steps_from, sums_at}
use Rattle.pilot_codecs.proofs.FieldLemmas.{digits_of-pos}
use Rattle.pilot_codecs.proofs.CompactLaws.{compact_takes}
use Rattle.pilot_codecs.proofs.GroupLemmas.{with_front}

-- an error that is want of memory
pub lacks_is : {X : Type 0} (e : ReadErr) (result : Result X ReadErr) → result ≡ Err e → LacksMemory result → e ≡ errors.NoMemory
lacks_is e result is lacks = let both : Err e ≡ Err errors.NoMemory = sym is ∙ lacks in cc

-- a fault is told
pub tells_fault : {X Y : Type 0} (at : ℕ) (d : FormFault) (result : Result X ReadErr) (read : Result Y FormFault) → result ≡ Err (errors.Form d) →
    read ≡ Err d → TellsShort at result read
tells_fault at d result read is fails = tells at (errors.Form d) result read is fails (λ lacks. absurd cc)

-- what is short is told, where want of memory tells that it isn't short
pub tells_if : {X Y : Type 0} (at : ℕ) (view : X → Y) (result : Result X ReadErr) (read : Result Y FormFault) → Gives view result read →
    HidesNoShort result read → TellsShort at result read
tells_if at view (Ok x) read gives enough = λ place le short. absurd (not_both (sym gives ∙ short))
tells_if at view (Err errors.NoMemory) read gives enough = λ place le short. absurd (enough refl (place, short))
tells_if at view (Err (errors.Form d)) read gives enough = tells_fault at d (Err (errors.Form d)) read refl gives

-- a number is short at its place
number_short : (at place : ℕ) (bytes : List ℕ) → number_at at bytes ≡ Err (fault place 1) → place ≡ at
unfolding number_at
number_short at place bytes e =
    elim (guard_err (ltb (length bytes) 8) (fault at 1) (fault place 1) (Ok (from_le_bytes w64 (take 8 bytes), drop 8 bytes)) e) [
      | inl p ↦ sym (ap (λ (f : FormFault). f.at) p.1)
      | inr q ↦ absurd (not_both q)
    ]

-- packed words are short behind the width, where the bytes end before them
pub packed_short : (at count w place : ℕ) (bytes : List ℕ) → packed_at at count w bytes ≡ Err (fault place 1) →
    (place ≡ at + 8) × (length bytes < 8 * words_for (count * w))
unfolding packed_at
packed_short at count w place bytes e =
    let size = words_for (count * w) in
    let got = fields_in count w bytes in
    let n = words_number (words_in size bytes) in
    let last = cond (ltb n (2 ^ (count * w))) (Ok (got, drop (8 * size) bytes)) (Err (fault (at + 8 + 8 * size - 8) 3)) in
    elim (guard_err (ltb (length bytes) (8 * size)) (fault (at + 8) 1) (fault place 1)
    (cond (not (eqb (digits_of (greatest got)) w)) (Err (fault at 2)) last) e) [
      | inl p ↦ (sym (ap (λ (f : FormFault). f.at) p.1), ltb-true _ _ p.0)
      | inr q ↦ elim (guard_err (not (eqb (digits_of (greatest got)) w)) (fault at 2) (fault place 1) last q) [
        | inl p ↦ absurd (other_kind at place 2 (λ k. omega (arith, k)) p.1)
        | inr r ↦
            let same = guard_last_err (ltb n (2 ^ (count * w))) (got, drop (8 * size) bytes) (fault (at + 8 + 8 * size - 8) 3) (fault place 1) r in
            absurd (other_kind (at + 8 + 8 * size - 8) place 3 (λ k. omega (arith, k)) same)
      ]
    ]

-- a list in one width is short at its place or behind
pub compact_from : (at count place : ℕ) (bytes : List ℕ) → compact_at at count bytes ≡ Err (fault place 1) → at ≤ place
unfolding compact_at
compact_from at count place bytes e =
    let d = fault place 1 in
    elim (bind_err (number_at at bytes)
    (λ width. cond (eqb width.0 0 || ltb 64 width.0) (Err (fault at 2)) (packed_at at count width.0 width.1)) d e) [
      | inl first ↦ omega (arith, number_short at place bytes first)
      | inr a ↦ elim (guard_err (eqb a.0.0 0 || ltb 64 a.0.0) (fault at 2) d (packed_at at count a.0.0 a.0.1) a.2) [
        | inl p ↦ absurd (other_kind at place 2 (λ k. omega (arith, k)) p.1)
        | inr q ↦ omega (arith, (packed_short at count a.0.0 place a.0.1 q).0)
      ]
    ]

-- no test of the indexes is about the length
used_short : (at place : ℕ) (ds places : List ℕ) → used_at at ds places ≡ Err (fault place 1) → ⊥
unfolding used_at
used_short at place ds places e =
    let d = fault place 1 in
    let last = cond (not (are_used (length ds) places)) (Err (fault at 5)) (Ok (looked_up ds places)) in
    elim (guard_err (not (are_below (length ds) places)) (fault (at + 8 + 8 * length ds + 8) 5) d last e) [
      | inl p ↦ other_kind (at + 8 + 8 * length ds + 8) place 5 (λ k. omega (arith, k)) p.1
      | inr q ↦ elim (guard_err (not (are_used (length ds) places)) (fault at 5) d (Ok (looked_up ds places)) q) [
        | inl p ↦ other_kind at place 5 (λ k. omega (arith, k)) p.1
        | inr r ↦ not_both r
      ]
    ]

-- behind the entries it is the indexes that are short
pub indexed_short : (at count place : ℕ) (ds bytes : List ℕ) → indexed_at at count ds bytes ≡ Err (fault place 1) →
    compact_at (at + 8 + 8 * length ds) count bytes ≡ Err (fault place 1)
unfolding indexed_at
indexed_short at count place ds bytes e =
    let d = fault place 1 in
    elim (bind_err (compact_at (at + 8 + 8 * length ds) count bytes) (λ places. used_at at ds places.0 >>= λ values. Ok (values, places.1)) d e) [
      | inl first ↦ first
      | inr a ↦ elim (bind_err (used_at at ds a.0.0) (λ values. Ok (values, a.0.1)) d a.2) [
        | inl u ↦ absurd (used_short at place ds a.0.0 u)
        | inr b ↦ absurd (not_both b.2)
      ]
    ]

-- a dictionary is short in its entries, or behind them
pub entries_short : (at count size place : ℕ) (bytes : List ℕ) → entries_at at count size bytes ≡ Err (fault place 1) →
    (length bytes < 8 * size) ⊎ (at + 8 + 8 * size ≤ place)
unfolding entries_at
entries_short at count size place bytes e =
    let d = fault place 1 in
    let ds = words_in size bytes in
    let rest = indexed_at at count ds (drop (8 * size) bytes) in
    let risen = cond (ltb (rise_len ds) size) (Err (fault (at + 8 + 8 * rise_len ds) 4)) rest in
    elim (guard_err (ltb (length bytes) (8 * size)) (fault (at + 8) 1) d risen e) [
      | inl p ↦ inl (ltb-true _ _ p.0)
      | inr q ↦ elim (guard_err (ltb (rise_len ds) size) (fault (at + 8 + 8 * rise_len ds) 4) d rest q) [
        | inl p ↦ absurd (other_kind (at + 8 + 8 * rise_len ds) place 4 (λ k. omega (arith, k)) p.1)
        | inr r ↦
            let behind = indexed_short at count place ds (drop (8 * size) bytes) r in
            let from = compact_from (at + 8 + 8 * length ds) count place (drop (8 * size) bytes) behind in
            inr (omega (arith, from, length-words_in size bytes))
      ]
    ]

-- a fault of the list of steps is one of the sums
pub sums_short : (at count : ℕ) (bytes : List ℕ) (d : FormFault) → sums_at at count bytes ≡ Err d → list_at at count bytes ≡ Err d
unfolding sums_at
sums_short at count bytes d e =
    elim (bind_err (list_at at count bytes) (λ sums. Ok (steps_from 0 sums.0, sums.1)) d e) [
      | inl first ↦ first
      | inr a ↦ absurd (not_both a.2)
    ]

-- a fault of a list in groups is one of the groups
pub parted_short : (at count : ℕ) (bytes : List ℕ) (d : FormFault) → parted_at at count bytes ≡ Err d →
    groups_at (groups_for count) at count bytes ≡ Err d
unfolding parted_at
parted_short at count bytes d e =
    elim (bind_err (groups_at (groups_for count) at count bytes) (λ groups. Ok (flat_map (λ g. g) groups.0, groups.1)) d e) [
      | inl first ↦ first
      | inr a ↦ absurd (not_both a.2)
    ]

-- a fault behind what was read is one of what is still read
pub with_short : (front : List (List ℕ)) (read : Result (List (List ℕ) × List ℕ) FormFault) (d : FormFault) → with_front front read ≡ Err d →
    read ≡ Err d
with_short front read d e =
    elim (bind_err read (λ x. Ok (front ++ x.0, x.1)) d e) [
      | inl first ↦ first
      | inr a ↦ absurd (not_both a.2)
    ]

-- groups are short at their place or behind
groups_from : (n at count place : ℕ) (bytes : List ℕ) → groups_at n at count bytes ≡ Err (fault place 1) → at ≤ place
unfolding groups_at
groups_from zero at count place bytes e = absurd (not_both e)
groups_from (suc n) at count place bytes e =
    let d = fault place 1 in
    elim (bind_err (compact_at at (min 256 count) bytes) (λ first. groups_at n (at + (length bytes - length first.1)) (count - 256) first.1 >>= λ others.
    Ok (first.0 ∷ others.0, others.1)) d e) [
      | inl one ↦ compact_from at (min 256 count) place bytes one
      | inr a ↦ elim (bind_err (groups_at n (at + (length bytes - length a.0.1)) (count - 256) a.0.1) (λ others. Ok (a.0.0 ∷ others.0, others.1)) d a.2) [
        | inl more ↦ omega (arith, groups_from n (at + (length bytes - length a.0.1)) (count - 256) place a.0.1 more)
        | inr b ↦ absurd (not_both b.2)
      ]
    ]

-- a group that has values takes at least 16 bytes
group_long : (vs : List ℕ) → 0 < length vs → 16 ≤ length (compact_text vs)
unfolding compact_text
group_long vs some =
    let w = digits_of (greatest vs) in
    let bits = bits_of_each w vs in
    let pos : 1 ≤ length vs * w = Rattle.std.proofs.lemmas.Nat.mul-le 1 1 (length vs) w some (digits_of-pos (greatest vs)) in
    omega (arith, length-append (number w) (run bits), length-run bits, length-bits_of_each w vs, pos)

-- groups are short in the first one, or so far behind its place
pub groups_short : (left place there : ℕ) (bytes : List ℕ) → IsBytes bytes → 0 < left →
    groups_at (groups_for left) place left bytes ≡ Err (fault there 1) →
    (compact_at place (min 256 left) bytes ≡ Err (fault there 1)) ⊎ (place + 16 ≤ there)
unfolding groups_at
groups_short left place there bytes fits some e =
    let n = groups_for (left - 256) in
    let d = fault there 1 in
    let more : groups_at (suc n) place left bytes ≡ Err d =
    ap (λ (k : ℕ). groups_at k place left bytes) (sym (Rattle.pilot_codecs.proofs.GroupLemmas.groups_for-more left some)) ∙ e in
    elim (bind_err (compact_at place (min 256 left) bytes) (λ first. groups_at n (place + (length bytes - length first.1)) (left - 256) first.1 >>= λ others.
    Ok (first.0 ∷ others.0, others.1)) d more) [
      | inl one ↦ inl one
      | inr a ↦ elim (bind_err (groups_at n (place + (length bytes - length a.0.1)) (left - 256) a.0.1)
          (λ others. Ok (a.0.0 ∷ others.0, others.1)) d a.2) [
            | inl behind ↦
                let t = compact_takes place (min 256 left) bytes a.0.0 a.0.1 fits a.1 in
                let long = group_long a.0.0 (omega (arith, t.count_is, some)) in
                let size = ap length t.taken.parts ∙ length-append (compact_text a.0.0) a.0.1 in
                inr (omega (arith, groups_from n (place + (length bytes - length a.0.1)) (left - 256) there a.0.1 behind, long, size))
            | inr b ↦ absurd (not_both b.2)
          ]
    ]
