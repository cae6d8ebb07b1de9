-- What is read under a code or a pair is spelled so, and what is spelled is read again, whatever follows.
use Rattle.std.proofs.Common.{◌≡◌, ℕ, ◌+◌, ◌-◌, ◌^◌, ◌<◌, ◌≤◌, List, ◌++◌, length, get_or, take, drop, Option, Some, None}
use Rattle.std.proofs.Common.{Ok, refl, sym, ap, ◌∙◌, subst}
use Rattle.std.proofs.Common.{append_assoc, arith}
use Rattle.std.proofs.lemmas.List.{take_at, drop_at, drop-drop, length-append, length-drop, length-take, take-append-drop}
use Rattle.pthash.specs.Sizes.{front_count_of}
use Rattle.elias_fano.specs.Reading.{◌>>=◌}
use Rattle.elias_fano.proofs.CallerLemmas.{IsBytes}
use Rattle.elias_fano.proofs.CallerLemmas.{bind_ok, ok_is, done}
use Rattle.pilot_codecs.specs.declared.code.Code.{Code}
use Rattle.pilot_codecs.specs.declared.code.Code.TheVariants as codes
use Rattle.pilot_codecs.specs.declared.code.Encoding.{Encoding}
use Rattle.pilot_codecs.specs.Spelling.{code_text, split_text, pair_text, Fits}
use Rattle.pilot_codecs.specs.Reading.{code_at, split_at}
use Rattle.pilot_codecs.specs.Encoded.{FitSplit, pair_at, IsSpelled}
use Rattle.pilot_codecs.proofs.CompactLaws.{compact_takes, compact_again}
use Rattle.pilot_codecs.proofs.GroupLaws.{parted_takes, parted_again}
use Rattle.pilot_codecs.proofs.DictReads.{dict_takes, dict_again}
use Rattle.pilot_codecs.proofs.SumLemmas.{sums_take, sums_again}

-- what a reading took
pub record IsTaken (bytes text : List ℕ) (count : ℕ) (vs rest : List ℕ) : Type 0 where
  pub parts : bytes ≡ text ++ rest
  pub rest_fits : IsBytes rest
  pub count_is : length vs ≡ count

-- the bytes behind a text are bytes
rest_of : (bytes text rest : List ℕ) → IsBytes bytes → bytes ≡ text ++ rest → IsBytes rest
rest_of bytes text rest fits e i =
    let same : rest ≡ drop (length text) bytes = sym (drop_at text rest (length text) refl) ∙ ap (λ (t : List ℕ). drop (length text) t) (sym e) in
    subst (λ (t : List ℕ). get_or t i 0 < 256) (sym same) (Rattle.elias_fano.proofs.CallerLemmas.IsBytes-drop (length text) bytes fits i)

-- a list that is read under a code stood there as its spelling
pub code_takes : (code : Code) (at count : ℕ) (bytes vs rest : List ℕ) → IsBytes bytes → count ≤ 2 ^ 30 →
    code_at code at count bytes ≡ Ok (vs, rest) →
    IsTaken bytes (code_text code vs) count vs rest × Fits code vs
code_takes codes.Compact at count bytes vs rest fits few e =
    let t = compact_takes at count bytes vs rest fits e in
    (record { parts = t.taken.parts; rest_fits = t.taken.rest_fits; count_is = t.count_is }, (t.small, omega (arith, t.count_is)))
code_takes codes.Parted at count bytes vs rest fits few e =
    let t = parted_takes at count bytes vs rest fits e in
    (record { parts = t.taken.parts; rest_fits = t.taken.rest_fits; count_is = t.count_is }, (t.small, omega (arith, t.count_is)))
code_takes codes.Dict at count bytes vs rest fits few e =
    let t = dict_takes at count bytes vs rest fits e in
    (record { parts = t.taken.parts; rest_fits = t.taken.rest_fits; count_is = t.count_is }, (t.small, omega (arith, t.count_is)))
code_takes codes.EliasFano at count bytes vs rest fits few e =
    let t = sums_take at count bytes vs rest fits (omega arith) e in (
      record { parts = t.0.parts; rest_fits = rest_of bytes (code_text codes.EliasFano vs) rest fits t.0.parts; count_is = t.1 },
      (t.0.rising.fits, omega (arith, t.1)),
    )

-- the spelling of a list under a code is read as that list
pub code_again : (code : Code) (at : ℕ) (vs rest : List ℕ) → Fits code vs → code_at code at (length vs) (code_text code vs ++ rest) ≡ Ok (vs, rest)
code_again codes.Compact at vs rest f = compact_again at vs rest f.0
code_again codes.Parted at vs rest f = parted_again at vs rest f.0
code_again codes.Dict at vs rest f = dict_again at vs rest f.0 f.1
code_again codes.EliasFano at vs rest f = sums_again at vs rest f.0 f.1

-- the front part is no longer than the list
pub front_le : (k : ℕ) → front_count_of k ≤ k
front_le k = omega arith

-- so it is with two codes
pub split_takes : (front : Code) (back : Option Code) (at count : ℕ) (bytes vs rest : List ℕ) → IsBytes bytes → count ≤ 2 ^ 30 →
    split_at front back at count bytes ≡ Ok (vs, rest) → IsTaken bytes (split_text front back vs) count vs rest × FitSplit front back vs
split_takes front None at count bytes vs rest fits few e = code_takes front at count bytes vs rest fits few e
split_takes front (Some back) at count bytes vs rest fits few e =
    let n = front_count_of count in
    let a = bind_ok (code_at front at n bytes) (λ first. code_at back (at + (length bytes - length first.1)) (count - n) first.1 >>= λ second.
    Ok (first.0 ++ second.0, second.1)) (vs, rest) e in
    let b = bind_ok (code_at back (at + (length bytes - length a.0.1)) (count - n) a.0.1) (λ second. Ok (a.0.0 ++ second.0, second.1)) (vs, rest) a.2 in
    let t = code_takes front at n bytes a.0.0 a.0.1 fits (omega (arith, front_le count)) a.1 in
    let u = code_takes back (at + (length bytes - length a.0.1)) (count - n) a.0.1 b.0.0 b.0.1 t.0.rest_fits (omega arith) b.1 in
    let all = a.0.0 ++ b.0.0 in
    let size : length all ≡ count = omega (arith, length-append a.0.0 b.0.0, t.0.count_is, u.0.count_is, front_le count) in
    let cut : front_count_of (length all) ≡ length a.0.0 = ap (λ (k : ℕ). front_count_of k) size ∙ sym t.0.count_is in
    let first : take (front_count_of (length all)) all ≡ a.0.0 = ap (λ (k : ℕ). take k all) cut ∙ take_at a.0.0 b.0.0 (length a.0.0) refl in
    let second : drop (front_count_of (length all)) all ≡ b.0.0 = ap (λ (k : ℕ). drop k all) cut ∙ drop_at a.0.0 b.0.0 (length a.0.0) refl in
    let text : bytes ≡ (code_text front (take (front_count_of (length all)) all) ++ code_text back (drop (front_count_of (length all)) all)) ++ b.0.1 =
    t.0.parts ∙ ap (λ (x : List ℕ). code_text front a.0.0 ++ x) u.0.parts ∙ sym (append_assoc (code_text front a.0.0) (code_text back b.0.0) b.0.1)
    ∙ ap (λ (x : List ℕ). (code_text front x ++ code_text back b.0.0) ++ b.0.1) (sym first)
    ∙ ap (λ (x : List ℕ). (code_text front (take (front_count_of (length all)) all) ++ code_text back x) ++ b.0.1) (sym second) in
    let made : IsTaken bytes (split_text front (Some back) all) count all b.0.1 × FitSplit front (Some back) all = (
      record { parts = text; rest_fits = u.0.rest_fits; count_is = size },
      (subst (λ (x : List ℕ). Fits front x) (sym first) t.1, subst (λ (x : List ℕ). Fits back x) (sym second) u.1),
    ) in
    subst (λ (p : List ℕ × List ℕ). IsTaken bytes (split_text front (Some back) p.0) count p.0 p.1 × FitSplit front (Some back) p.0) (ok_is {A =
    List ℕ × List ℕ} (all, b.0.1) (vs, rest) b.2) made

-- and the spelling under two codes is read as that list
pub split_again : (front : Code) (back : Option Code) (at : ℕ) (vs rest : List ℕ) → FitSplit front back vs →
    split_at front back at (length vs) (split_text front back vs ++ rest) ≡ Ok (vs, rest)
split_again front None at vs rest f = code_again front at vs rest f
split_again front (Some back) at vs rest f =
    let n = front_count_of (length vs) in
    let first = take n vs in
    let second = drop n vs in
    let after = code_text back second ++ rest in
    let bytes = (code_text front first ++ code_text back second) ++ rest in
    let text : bytes ≡ code_text front first ++ after = append_assoc (code_text front first) (code_text back second) rest in
    let size : length first ≡ n = omega (arith, length-take n vs, front_le (length vs)) in
    let left : length second ≡ length vs - n = length-drop n vs in
    let one : code_at front at n bytes ≡ Ok (first, after) = ap (λ (k : ℕ). code_at front at k bytes) (sym size)
    ∙ ap (λ (t : List ℕ). code_at front at (length first) t) text ∙ code_again front at first after f.0 in
    let place = at + (length bytes - length after) in
    let two : code_at back place (length vs - n) after ≡ Ok (second, rest) = ap (λ (k : ℕ). code_at back place k after) (sym left)
    ∙ code_again back place second rest f.1 in
    rw (one, two) (ap (λ (xs : List ℕ). Ok (xs, rest)) (take-append-drop n vs))

-- ---- at a place in bytes

-- the rest of the bytes stands behind what was taken
rest_place : (bytes text rest : List ℕ) (at : ℕ) → at ≤ length bytes → drop at bytes ≡ text ++ rest →
    (length bytes ≡ at + length text + length rest) × (rest ≡ drop (at + length text) bytes)
rest_place bytes text rest at le e =
    let n = ap length e in (
      omega (arith, n, length-drop at bytes, length-append text rest),
      sym (sym (drop-drop (length text) at bytes) ∙ ap (λ (t : List ℕ). drop (length text) t) e ∙ drop_at text rest (length text) refl),
    )

-- what is taken at a place is spelled there
pub spelled_at : (bytes : List ℕ) (at count : ℕ) (enc : Encoding) (vs rest : List ℕ) → at ≤ length bytes →
    IsTaken (drop at bytes) (pair_text enc vs) count vs rest × FitSplit enc.front enc.back vs →
    (length rest ≤ length bytes) × IsSpelled bytes at count enc vs (length bytes - length rest) × (rest ≡ drop (length bytes - length rest) bytes)
spelled_at bytes at count enc vs rest le t =
    let p = rest_place bytes (pair_text enc vs) rest at le t.0.parts in
    let next : length bytes - length rest ≡ at + length (pair_text enc vs) = omega (arith, p.0) in
    let behind : rest ≡ drop (length bytes - length rest) bytes = p.1 ∙ ap (λ (k : ℕ). drop k bytes) (sym next) in (
      omega (arith, p.0),
      record { fit = t.1; count_is = t.0.count_is; next_is = next; text = t.0.parts ∙ ap (λ (r : List ℕ). pair_text enc vs ++ r) behind },
      behind,
    )

-- what is spelled at a place is read there
pub spelled_again : (bytes : List ℕ) (at count : ℕ) (enc : Encoding) (vs : List ℕ) (next : ℕ) → IsSpelled bytes at count enc vs next →
    pair_at enc at count (drop at bytes) ≡ Ok (vs, drop next bytes)
spelled_again bytes at count enc vs next s =
    ap (λ (k : ℕ). pair_at enc at k (drop at bytes)) (sym s.count_is) ∙ ap (λ (t : List ℕ). pair_at enc at (length vs) t) s.text
    ∙ split_again enc.front enc.back at vs (drop next bytes) s.fit

-- what is spelled at a place is what is read there
pub spelled_same : (bytes : List ℕ) (at count : ℕ) (enc : Encoding) (vs : List ℕ) (next : ℕ) (us rest : List ℕ) →
    IsSpelled bytes at count enc vs next →
    pair_at enc at count (drop at bytes) ≡ Ok (us, rest) → at ≤ length bytes →
    done {A = List ℕ × ℕ} (vs, next) ≡ Ok (us, length bytes - length rest)
spelled_same bytes at count enc vs next us rest s e le =
    let both = ok_is {A = List ℕ × List ℕ} (vs, drop next bytes) (us, rest) (sym (spelled_again bytes at count enc vs next s) ∙ e) in
    let same : vs ≡ us = ap (λ (p : List ℕ × List ℕ). p.0) both in
    let after : drop next bytes ≡ rest = ap (λ (p : List ℕ × List ℕ). p.1) both in
    let n = rest_place bytes (pair_text enc vs) (drop next bytes) at le s.text in
    let place : next ≡ length bytes - length rest = omega (arith, n.0, s.next_is, ap length after) in
    ap (λ (x : List ℕ). done {A = List ℕ × ℕ} (x, next)) same ∙ ap (λ (k : ℕ). done {A = List ℕ × ℕ} (us, k)) place

-- only one list of a count is spelled at a place
pub spelled_once : (bytes : List ℕ) (at count : ℕ) (enc : Encoding) (vs us : List ℕ) (m n : ℕ) → IsSpelled bytes at count enc vs m →
    IsSpelled bytes at count enc us n → (vs ≡ us) × (m ≡ n)
spelled_once bytes at count enc vs us m n s t =
    let both = ok_is {A = List ℕ × List ℕ} (vs, drop m bytes) (us, drop n bytes) (sym (spelled_again bytes at count enc vs m s)
    ∙ spelled_again bytes at count enc us n t) in
    let same : vs ≡ us = ap (λ (p : List ℕ × List ℕ). p.0) both in
    (same, s.next_is ∙ ap (λ (xs : List ℕ). at + length (pair_text enc xs)) same ∙ sym t.next_is)
