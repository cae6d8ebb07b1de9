-- The steps of a reading: numbers, words and runs, and what each takes.
use Rattle.std.proofs.Common.{◌≡◌, ℕ, zero, suc, ◌+◌, ◌*◌, ◌-◌, ◌^◌, ◌<◌, ◌≤◌, Bool, true, false, cond, ltb}
use Rattle.std.proofs.Common.{List, [], ◌∷◌, ◌++◌, length, get_or}
use Rattle.std.proofs.Common.{take}
use Rattle.std.proofs.Common.{drop, Result, Ok, Err, refl, sym, ap, ◌∙◌, subst, append_assoc, arith}
use Rattle.std.specs.List.{flat_map}
use Rattle.std.specs.Int.{w64, from_le_bytes}
use Rattle.std.proofs.lemmas.Bool.{ltb-false, ltb-true}
use Rattle.std.proofs.lemmas.Nat.{le_bytes_8, from_le_bytes-to_le_bytes_8}
use Rattle.std.proofs.lemmas.List.{drop-drop, take_rest, take-append-drop, drop_at, length-append, length-take}
use Rattle.bit_vector.specs.Bits.{bits_of, words_number, words_for, packed, IsPacked}
use Rattle.bit_vector.proofs.CallerLemmas.{length-bits_of, bits_of-number_of, number_of-lt}
use Rattle.bit_vector.proofs.CallerLemmas.{packed-bits_of}
use Rattle.bit_vector.proofs.CallerLemmas.{length-packed, AreWords-packed, words_number-packed}
use Rattle.elias_fano.specs.declared.fault.FormFault.{FormFault}
use Rattle.elias_fano.specs.Spelling.{number, run}
use Rattle.elias_fano.specs.Reading.{◌>>=◌, fault, number_at, words_in, run_at}
use Rattle.elias_fano.proofs.FormLemmas.{IsBytes, IsBytes-drop, IsBytes-take, packed_if_clear, number_lt, number_at-ok, run_at-ok}

-- the value of a step that did not fail
pub bind_ok : {A B : Type 0} (r : Result A FormFault) (f : A → Result B FormFault) (y : B) → (r >>= f) ≡ Ok y →
    (x : A) × (r ≡ Ok x) × (f x ≡ Ok y)
bind_ok (Ok x) f y e = (x, refl, e)
bind_ok (Err d) f y e = absurd cc

-- a test that did not fail
pub guard_ok : {B : Type 0} (b : Bool) (d : FormFault) (r : Result B FormFault) (y : B) → cond b (Err d) r ≡ Ok y → (b ≡ false) × (r ≡ Ok y)
guard_ok true d r y e = absurd cc
guard_ok false d r y e = (refl, e)

-- a test at the end that did not fail
pub guard_last : {B : Type 0} (b : Bool) (d : FormFault) (x y : B) → cond b (Ok x) (Err d) ≡ Ok y → (b ≡ true) × (x ≡ y)
guard_last true d x y e = (refl, cc)
guard_last false d x y e = absurd cc

-- what is read without a fault
abbrev pub done : {A : Type 0} → A → Result A FormFault
done x = Ok x

-- two readings that are the same have the same value
pub ok_is : {A : Type 0} (x y : A) → done x ≡ done y → x ≡ y
ok_is x y e = cc

-- what a reader took from the front
pub record Takes (bytes text rest : List ℕ) : Type 0 where
  pub parts : bytes ≡ text ++ rest
  pub rest_fits : IsBytes rest

-- two texts that are taken one after the other are taken as one
pub Takes-then : (a x b y c : List ℕ) → Takes a x b → Takes b y c → Takes a (x ++ y) c
Takes-then a x b y c p q = record { parts = p.parts ∙ ap (λ (t : List ℕ). x ++ t) q.parts ∙ sym (append_assoc x y c); rest_fits = q.rest_fits }

-- a number that is read stood there as its spelling
pub number_takes : (at : ℕ) (bytes : List ℕ) (n : ℕ) (rest : List ℕ) → IsBytes bytes → number_at at bytes ≡ Ok (n, rest) →
    Takes bytes (number n) rest × (n < 2 ^ 64)
unfolding number_at
number_takes at bytes n rest fits e =
    let g = guard_ok (ltb (length bytes) 8) (fault at 1) (Ok (from_le_bytes w64 (take 8 bytes), drop 8 bytes)) (n, rest) e in
    let long : 8 ≤ length bytes = ltb-false _ _ g.0 in
    let both = ok_is (from_le_bytes w64 (take 8 bytes), drop 8 bytes) (n, rest) g.1 in
    let n-is : from_le_bytes w64 (take 8 bytes) ≡ n = ap (λ (p : ℕ × List ℕ). p.0) both in
    let rest-is : drop 8 bytes ≡ rest = ap (λ (p : ℕ × List ℕ). p.1) both in
    let front : number n ≡ take 8 bytes = le_bytes_8 (take 8 bytes) n (omega (arith, length-take 8 bytes)) (IsBytes-take 8 bytes fits) (sym n-is) in (
      record {
        parts = sym (ap (λ (t : List ℕ). t ++ rest) front ∙ ap (λ (t : List ℕ). take 8 bytes ++ t) (sym rest-is) ∙ take-append-drop 8 bytes);
        rest_fits = subst (λ (t : List ℕ). IsBytes t) rest-is (IsBytes-drop 8 bytes fits);
      },
      subst (λ (m : ℕ). m < 2 ^ 64) n-is (number_lt (take 8 bytes) (IsBytes-take 8 bytes fits)),
    )

-- the spelling of a number is read as that number
pub number_again : (at n : ℕ) (rest : List ℕ) → n < 2 ^ 64 → number_at at (number n ++ rest) ≡ Ok (n, rest)
number_again at n rest lt =
    let e = number_at-ok at (number n ++ rest) n (omega (arith, length-append (number n) rest)) (sym (from_le_bytes-to_le_bytes_8 n lt)) in
    e ∙ ap (λ (t : List ℕ). Ok (n, t)) (take_rest (number n ++ rest) 8)

-- words that are read are spelled by the bytes that they were
pub words_written : (k : ℕ) (bytes : List ℕ) → IsBytes bytes → 8 * k ≤ length bytes →
    flat_map number (words_in k bytes) ++ drop (8 * k) bytes ≡ bytes
unfolding words_in
words_written zero bytes fits le = refl
words_written (suc k) bytes fits le =
    let w = from_le_bytes w64 (take 8 bytes) in
    let front : number w ≡ take 8 bytes = le_bytes_8 (take 8 bytes) w (omega (arith, length-take 8 bytes)) (IsBytes-take 8 bytes fits) refl in
    let place : 8 * suc k ≡ 8 + 8 * k = omega arith in
    let others = words_written k (drop 8 bytes) (IsBytes-drop 8 bytes fits) (omega (arith, Rattle.std.proofs.lemmas.List.length-drop 8 bytes)) in
    append_assoc (number w) (flat_map number (words_in k (drop 8 bytes))) (drop (8 * suc k) bytes)
    ∙ ap (λ (t : List ℕ). number w ++ (flat_map number (words_in k (drop 8 bytes)) ++ t)) (ap (λ (j : ℕ). drop j bytes) place
    ∙ sym (drop-drop (8 * k) 8 bytes))
    ∙ ap (λ (t : List ℕ). number w ++ t) others
    ∙ ap (λ (t : List ℕ). t ++ drop 8 bytes) front
    ∙ take-append-drop 8 bytes

-- the spelling of words is read as these words
pub words_again : (ws rest : List ℕ) → ((i : ℕ) → get_or ws i 0 < 2 ^ 64) → words_in (length ws) (flat_map number ws ++ rest) ≡ ws
unfolding words_in
words_again [] rest fits = refl
words_again (w ∷ ws) rest fits =
    ap (λ (x : ℕ). x ∷ words_in (length ws) (flat_map number ws ++ rest)) (from_le_bytes-to_le_bytes_8 w (fits 0))
    ∙ ap (λ (xs : List ℕ). w ∷ xs) (words_again ws rest (λ i. fits (suc i)))

-- each number takes 8 bytes
pub length-numbers : (ws : List ℕ) → length (flat_map number ws) ≡ 8 * length ws
length-numbers [] = refl
length-numbers (w ∷ ws) = omega (arith, length-append (number w) (flat_map number ws), length-numbers ws)

-- a run that is read stood there as its spelling
pub run_takes : (at len : ℕ) (bytes : List ℕ) (bits : List Bool) (rest : List ℕ) → IsBytes bytes → run_at at len bytes ≡ Ok (bits, rest) →
    Takes bytes (run bits) rest × (length bits ≡ len)
unfolding run_at run
run_takes at len bytes bits rest fits e =
    let count = words_for len in
    let ws = words_in count bytes in
    let n = words_number ws in
    let g = guard_ok (ltb (length bytes) (8 * count)) (fault at 1)
    (cond (ltb n (2 ^ len)) (Ok (bits_of len n, drop (8 * count) bytes)) (Err (fault (at + 8 * count - 8) 3))) (bits, rest) e in
    let long : 8 * count ≤ length bytes = ltb-false _ _ g.0 in
    let h = guard_last (ltb n (2 ^ len)) (fault (at + 8 * count - 8) 3) (bits_of len n, drop (8 * count) bytes) (bits, rest) g.1 in
    let packing = packed_if_clear len bytes fits (ltb-true _ _ h.0) in
    let bits-is : bits_of len n ≡ bits = ap (λ (p : List Bool × List ℕ). p.0) h.1 in
    let rest-is : drop (8 * count) bytes ≡ rest = ap (λ (p : List Bool × List ℕ). p.1) h.1 in
    let text : flat_map number (packed (bits_of len n)) ++ drop (8 * count) bytes ≡ bytes =
    ap (λ (xs : List ℕ). flat_map number xs ++ drop (8 * count) bytes) (packed-bits_of ws len packing) ∙ words_written count bytes fits long in
    let taken : Takes bytes (flat_map number (packed (bits_of len n))) (drop (8 * count) bytes) =
    record { parts = sym text; rest_fits = IsBytes-drop (8 * count) bytes fits } in
    subst (λ (t : List ℕ). Takes bytes (flat_map number (packed bits)) t × (length bits ≡ len)) rest-is
    (subst (λ (bs : List Bool). Takes bytes (flat_map number (packed bs)) (drop (8 * count) bytes)
    × (length bs ≡ len)) bits-is (taken, length-bits_of len n))

-- the spelling of a run is read as that run
pub run_again : (at : ℕ) (bits : List Bool) (rest : List ℕ) → run_at at (length bits) (run bits ++ rest) ≡ Ok (bits, rest)
unfolding run
run_again at bits rest =
    let len = length bits in
    let ws = packed bits in
    let bytes = flat_map number ws ++ rest in
    let count = length-packed bits in
    let size = length-numbers ws in
    let le : 8 * length ws ≤ length bytes = omega (arith, size, length-append (flat_map number ws) rest) in
    let packing : IsPacked ws len =
    record { count = count; fit = AreWords-packed bits; clear = subst (λ (n : ℕ). n < 2 ^ len) (sym (words_number-packed bits)) (number_of-lt bits) } in
    let value : bits ≡ bits_of len (words_number ws) = sym (ap (λ (n : ℕ). bits_of len n) (words_number-packed bits) ∙ bits_of-number_of bits) in
    run_at-ok at len (length ws) bytes ws bits count le (sym (words_again ws rest (AreWords-packed bits))) packing value
    ∙ ap (λ (t : List ℕ). Ok (bits, t)) (take_rest bytes (8 * length ws) ∙ drop_at (flat_map number ws) rest (8 * length ws) size)
