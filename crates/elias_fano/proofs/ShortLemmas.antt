-- Too few bytes for the first words are told before memory is taken.
use Rattle.std.proofs.Common.{◌≡◌, ℕ, ◌+◌, ◌*◌, ◌-◌, ◌^◌, ◌<◌, ◌≤◌, Bool, true, false, cond, eqb, ltb, List, length, drop}
use Rattle.std.proofs.Common.{Result, Ok, Err}
use Rattle.std.proofs.Common.{refl, sym, ap, ◌∙◌, inl, inr, arith}
use Rattle.std.specs.Prelude.{not, ◌⊎◌}
use Rattle.std.proofs.lemmas.Bool.{ltb-true}
use Rattle.bit_vector.specs.Bits.{bits_of, words_number, words_for, ones}
use Rattle.elias_fano.specs.declared.fault.FormFault.{FormFault}
use Rattle.elias_fano.specs.declared.fault.ReadErr.{ReadErr}
use Rattle.elias_fano.specs.declared.fault.ReadErr.TheVariants as errors
use Rattle.elias_fano.specs.Spelling.{last_of, rises, high_len}
use Rattle.elias_fano.specs.Values.{values_of}
use Rattle.elias_fano.specs.Reading.{◌>>=◌, Fails, TellsShort, fault, words_in, run_at, checked, parts_at}

-- the fault of a step, or of what comes after it
pub bind_err : {A B : Type 0} (r : Result A FormFault) (f : A → Result B FormFault) (d : FormFault) → (r >>= f) ≡ Err d →
    (r ≡ Err d) ⊎ ((x : A) × (r ≡ Ok x) × (f x ≡ Err d))
bind_err (Ok x) f d e = inr (x, refl, e)
bind_err (Err c) f d e = inl (let same : c ≡ d = cc in ap Err same)

-- the fault of a test, or of what comes after it
pub guard_err : {B : Type 0} (b : Bool) (c d : FormFault) (r : Result B FormFault) → cond b (Err c) r ≡ Err d →
    ((b ≡ true) × (c ≡ d)) ⊎ (r ≡ Err d)
guard_err true c d r e = inl (refl, cc)
guard_err false c d r e = inr e

-- the fault of a test that comes last
pub guard_last_err : {B : Type 0} (b : Bool) (x : B) (c d : FormFault) → cond b (Ok x) (Err c) ≡ Err d → c ≡ d
guard_last_err true x c d e = absurd cc
guard_last_err false x c d e = cc

-- two readings that are the same fault
abbrev pub failed : {A : Type 0} → FormFault → Result A FormFault
failed d = Err d

-- a reading that gives a value
abbrev pub read_as : {A : Type 0} → A → Result A FormFault
read_as x = Ok x

-- two readings with the same fault
pub err_is : {A : Type 0} {c d : FormFault} → failed {A = A} c ≡ failed {A = A} d → c ≡ d
err_is e = cc

-- no reading is a value and a fault
pub not_both : {A : Type 0} {x : A} {d : FormFault} → read_as {A = A} x ≡ failed {A = A} d → ⊥
not_both e = absurd cc

-- a fault of another kind is not that fault
pub other_kind : (at place kind : ℕ) → (kind ≡ 1 → ⊥) → fault at kind ≡ fault place 1 → ⊥
other_kind at place kind other same = other (ap (λ (f : FormFault). f.kind) same)

-- a run is short at its place, where the bytes end before its words
pub run_short : (at len place : ℕ) (bytes : List ℕ) → run_at at len bytes ≡ Err (fault place 1) → (place ≡ at) × (length bytes < 8 * words_for len)
unfolding run_at
run_short at len place bytes e =
    let count = words_for len in
    let n = words_number (words_in count bytes) in
    elim (guard_err (ltb (length bytes) (8 * count)) (fault at 1) (fault place 1)
    (cond (ltb n (2 ^ len)) (Ok (bits_of len n, drop (8 * count) bytes)) (Err (fault (at + 8 * count - 8) 3))) e) [
      | inl p ↦ (sym (ap (λ (f : FormFault). f.at) p.1), ltb-true _ _ p.0)
      | inr q ↦
          let same = guard_last_err (ltb n (2 ^ len)) (bits_of len n, drop (8 * count) bytes) (fault (at + 8 * count - 8) 3) (fault place 1) q in
          absurd (other_kind (at + 8 * count - 8) place 3 (λ k. omega (arith, k)) same)
    ]

-- no test of the bits is about the length
pub checked_short : (at high_at count last w place : ℕ) (low high : List Bool) → checked at high_at count last w low high ≡ Err (fault place 1) → ⊥
unfolding checked
checked_short at high_at count last w place low high e =
    let got = values_of w low high in
    let ends = cond (eqb (last_of 0 got) last) (Ok got) (Err (fault at 6)) in
    elim (guard_err (not (eqb (ones high) count)) (fault high_at 5) (fault place 1) (cond (not (rises 0 got)) (Err (fault (at + 8) 4)) ends) e) [
      | inl p ↦ other_kind high_at place 5 (λ k. omega (arith, k)) p.1
      | inr q ↦ elim (guard_err (not (rises 0 got)) (fault (at + 8) 4) (fault place 1) ends q) [
        | inl p ↦ other_kind (at + 8) place 4 (λ k. omega (arith, k)) p.1
        | inr r ↦ other_kind at place 6 (λ k. omega (arith, k)) (guard_last_err (eqb (last_of 0 got) last) got (fault at 6) (fault place 1) r)
      ]
    ]

-- what is short is the low bits, or the high bits behind them
pub parts_short : (at count last w place : ℕ) (bytes : List ℕ) → parts_at at count last w bytes ≡ Err (fault place 1) →
    (run_at (at + 8) (count * w) bytes ≡ Err (fault place 1))
    ⊎ ((low : List Bool × List ℕ) × (run_at (at + 8) (count * w) bytes ≡ Ok low)
    × (run_at (at + 8 + 8 * words_for (count * w)) (high_len count last w) low.1 ≡ Err (fault place 1)))
unfolding parts_at
parts_short at count last w place bytes e =
    let high_at = at + 8 + 8 * words_for (count * w) in
    let d = fault place 1 in
    elim (bind_err (run_at (at + 8) (count * w) bytes) (λ low. run_at high_at (high_len count last w) low.1 >>= λ high.
    checked at high_at count last w low.0 high.0 >>= λ values. Ok (values, high.1)) d e) [
      | inl first ↦ inl first
      | inr a ↦ elim (bind_err (run_at high_at (high_len count last w) a.0.1) (λ high.
          checked at high_at count last w a.0.0 high.0 >>= λ values. Ok (values, high.1)) d a.2) [
            | inl second ↦ inr (a.0, a.1, second)
            | inr b ↦ elim (bind_err (checked at high_at count last w a.0.0 b.0.0) (λ values. Ok (values, b.0.1)) d b.2) [
              | inl third ↦ absurd (checked_short at high_at count last w place a.0.0 b.0.0 third)
              | inr c ↦ absurd (let none : Ok (c.0, b.0.1) ≡ Err d = c.2 in cc)
            ]
          ]
    ]

-- an error is told, where memory isn't wanted before the first words are there
pub tells : {X Y : Type 0} (at : ℕ) (e : ReadErr) (result : Result X ReadErr) (read : Result Y FormFault) → result ≡ Err e → Fails e read →
    (e ≡ errors.NoMemory → (place : ℕ) → place ≤ at + 8 → read ≡ Err (fault place 1) → ⊥) → TellsShort at result read
tells at errors.NoMemory result read is fails enough = λ place le short. absurd (enough refl place le short)
tells at (errors.Form f) result read is fails enough = λ place le short.
    let same : f ≡ fault place 1 = cc in
    is ∙ ap (λ (g : FormFault). Err (errors.Form g)) same

-- what is read is not short
pub tells_none : {X Y : Type 0} (at : ℕ) (result : Result X ReadErr) (read : Result Y FormFault) (y : Y) → read ≡ Ok y → TellsShort at result read
tells_none at result read y is = λ place le short. absurd (let both : Ok y ≡ Err (fault place 1) = sym is ∙ short in cc)

-- the same answer of another kind of result
pub tells_same : {X Z Y : Type 0} (at : ℕ) (e : ReadErr) (one : Result X ReadErr) (other : Result Z ReadErr) (read : Result Y FormFault) →
    one ≡ Err e → other ≡ Err e → TellsShort at one read → TellsShort at other read
tells_same at e one other read is is2 h = λ place le short.
    let same : e ≡ errors.Form (fault place 1) = let both : Err e ≡ Err (errors.Form (fault place 1)) = sym is ∙ h place le short in cc in
    is2 ∙ ap (λ (f : ReadErr). Err f) same
