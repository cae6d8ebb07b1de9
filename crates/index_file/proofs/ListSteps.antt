-- What reading the lists of a partition gives, by their tests.
use Rattle.std.specs.Prelude.{◌≡◌, ℕ, ◌-◌, ◌<◌, ◌≤◌, List, length, drop, Result, Ok, Err}
use Rattle.std.proofs.Common.{refl, sym, ap, ◌∙◌, subst, arith}
use Rattle.std.proofs.lemmas.Bool.{lt-ltb, le-ltb}
use Rattle.elias_fano.specs.declared.fault.FormFault.{FormFault}
use Rattle.elias_fano.specs.declared.fault.ReadErr.{ReadErr}
use Rattle.elias_fano.specs.Reading as lists
use Rattle.elias_fano.specs.Values.{below_len}
use Rattle.pilot_codecs.specs.declared.code.Encoding.{Encoding}
use Rattle.pilot_codecs.specs.Encoded.{pair_at}
use Rattle.index_text.specs.declared.fault.IndexFault.{IndexFault}
use Rattle.index_text.specs.declared.fault.IndexFault.TheVariants as faults
use Rattle.index_text.specs.Faults.{◌>>=◌, formed, all_below, fault_of_list, Fails}
use Rattle.index_text.specs.Lists.{pilots_at, free_at}
use Rattle.index_file.proofs.Counting.{place_is}
use Rattle.index_file.proofs.Faults.{Fails-formed}

-- a list that was read with a value that is too great
all_below-no : (bound : ℕ) (fault : ℕ → IndexFault) (vs rest : List ℕ) (k : ℕ) → k ≡ below_len bound vs → k < length vs →
    all_below bound fault (vs, rest) ≡ Err (fault k)
all_below-no bound fault vs rest k is low =
    let less : below_len bound vs < length vs = omega arith in
    rw (lt-ltb (below_len bound vs) (length vs) less) (ap (λ (j : ℕ). Err (fault j)) (sym is))

-- a list that was read with none
all_below-yes : (bound : ℕ) (fault : ℕ → IndexFault) (vs rest : List ℕ) (k : ℕ) → k ≡ below_len bound vs → length vs ≤ k →
    all_below bound fault (vs, rest) ≡ Ok (vs, rest)
all_below-yes bound fault vs rest k is high =
    let none : length vs ≤ below_len bound vs = omega arith in
    rw (le-ltb (below_len bound vs) (length vs) none) refl

-- pilots by what reading their list gives
pilots_by : (bytes : List ℕ) (enc : Encoding) (number buckets at : ℕ) → at ≤ length bytes →
    pilots_at (length bytes) enc number buckets (drop at bytes)
    ≡ (formed (pair_at enc at buckets (drop at bytes)) >>= all_below 4294967295 (λ bucket. faults.Pilot number bucket))
unfolding pilots_at
pilots_by bytes enc number buckets at within =
    ap (λ (k : ℕ). formed (pair_at enc k buckets (drop at bytes)) >>= all_below 4294967295 (λ bucket. faults.Pilot number bucket))
    (place_is bytes at within)

-- pilots whose list has a fault
pub pilots_err : (bytes : List ℕ) (enc : Encoding) (number buckets at : ℕ) (e : ReadErr) → at ≤ length bytes →
    lists.Fails e (pair_at enc at buckets (drop at bytes)) → Fails (fault_of_list e) (pilots_at (length bytes) enc number buckets (drop at bytes))
pilots_err bytes enc number buckets at e within fails =
    subst (Fails (fault_of_list e)) (sym (pilots_by bytes enc number buckets at within))
    (Fails-formed e (pair_at enc at buckets (drop at bytes)) (all_below 4294967295 (λ bucket. faults.Pilot number bucket)) fails)

-- a pilot that is too great
pub pilots_no : (bytes : List ℕ) (enc : Encoding) (number buckets at : ℕ) (vs rest : List ℕ) (k : ℕ) → at ≤ length bytes →
    pair_at enc at buckets (drop at bytes) ≡ Ok (vs, rest) → k ≡ below_len 4294967295 vs → k < length vs →
    pilots_at (length bytes) enc number buckets (drop at bytes) ≡ Err (faults.Pilot number k)
pilots_no bytes enc number buckets at vs rest k within read is low =
    let f = all_below 4294967295 (λ bucket. faults.Pilot number bucket) in
    pilots_by bytes enc number buckets at within ∙ ap (λ (r : Result (List ℕ × List ℕ) FormFault). formed r >>= f) read
    ∙ all_below-no 4294967295 (λ bucket. faults.Pilot number bucket) vs rest k is low

-- pilots without a fault
pub pilots_yes : (bytes : List ℕ) (enc : Encoding) (number buckets at : ℕ) (vs rest : List ℕ) (k : ℕ) → at ≤ length bytes →
    pair_at enc at buckets (drop at bytes) ≡ Ok (vs, rest) → k ≡ below_len 4294967295 vs → length vs ≤ k →
    pilots_at (length bytes) enc number buckets (drop at bytes) ≡ Ok (vs, rest)
pilots_yes bytes enc number buckets at vs rest k within read is high =
    let f = all_below 4294967295 (λ bucket. faults.Pilot number bucket) in
    pilots_by bytes enc number buckets at within ∙ ap (λ (r : Result (List ℕ × List ℕ) FormFault). formed r >>= f) read
    ∙ all_below-yes 4294967295 (λ bucket. faults.Pilot number bucket) vs rest k is high

-- a free list by what reading its list gives
free_by : (bytes : List ℕ) (number n size at : ℕ) → at ≤ length bytes →
    free_at (length bytes) number n size (drop at bytes)
    ≡ (formed (lists.list_at at (size - n) (drop at bytes)) >>= all_below n (λ place. faults.Free number place))
unfolding free_at
free_by bytes number n size at within =
    ap (λ (k : ℕ). formed (lists.list_at k (size - n) (drop at bytes)) >>= all_below n (λ place. faults.Free number place)) (place_is bytes at within)

-- a free list with a fault
pub free_err : (bytes : List ℕ) (number n size at : ℕ) (e : ReadErr) → at ≤ length bytes →
    lists.Fails e (lists.list_at at (size - n) (drop at bytes)) →
    Fails (fault_of_list e) (free_at (length bytes) number n size (drop at bytes))
free_err bytes number n size at e within fails =
    subst (Fails (fault_of_list e)) (sym (free_by bytes number n size at within))
    (Fails-formed e (lists.list_at at (size - n) (drop at bytes)) (all_below n (λ place. faults.Free number place)) fails)

-- an entry that is no value
pub free_no : (bytes : List ℕ) (number n size at : ℕ) (vs rest : List ℕ) (k : ℕ) → at ≤ length bytes →
    lists.list_at at (size - n) (drop at bytes) ≡ Ok (vs, rest) → k ≡ below_len n vs → k < length vs →
    free_at (length bytes) number n size (drop at bytes) ≡ Err (faults.Free number k)
free_no bytes number n size at vs rest k within read is low =
    let f = all_below n (λ place. faults.Free number place) in
    free_by bytes number n size at within ∙ ap (λ (r : Result (List ℕ × List ℕ) FormFault). formed r >>= f) read
    ∙ all_below-no n (λ place. faults.Free number place) vs rest k is low

-- a free list without a fault
pub free_yes : (bytes : List ℕ) (number n size at : ℕ) (vs rest : List ℕ) (k : ℕ) → at ≤ length bytes →
    lists.list_at at (size - n) (drop at bytes) ≡ Ok (vs, rest) → k ≡ below_len n vs → length vs ≤ k →
    free_at (length bytes) number n size (drop at bytes) ≡ Ok (vs, rest)
free_yes bytes number n size at vs rest k within read is high =
    let f = all_below n (λ place. faults.Free number place) in
    free_by bytes number n size at within ∙ ap (λ (r : Result (List ℕ × List ℕ) FormFault). formed r >>= f) read
    ∙ all_below-yes n (λ place. faults.Free number place) vs rest k is high
