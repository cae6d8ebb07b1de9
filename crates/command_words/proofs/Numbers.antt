-- What the texts of numbers are.
use Rattle.std.proofs.Common.{◌≡◌, ◌≢◌, ℕ, ◌^◌, ◌<◌, ◌≤◌, List, length, get_or, true, false, cond, ◌&&◌, Option, Some, None, Result}
use Rattle.std.proofs.Common.{Ok, Err, refl, sym, ap, subst, ◌∙◌, arith}
use Rattle.std.specs.Prelude.{IfSome, decimal, bytes_eq, nat_lt}
use Rattle.std.specs.Result.{OkIff, result_ok}
use Rattle.std.specs.Str.Parse.{AllDigits, digits_value, ParsesUnsigned}
use Rattle.std.proofs.lemmas.Bool.Decides.{nat_tests}
use Rattle.std.proofs.lemmas.Slice.Eq.{bytes_eq-Decides}
use Rattle.std.proofs.lemmas.Fmt.{digits_decimal, digits_value-decimal, decimal-digits_value, decimal_nonempty, first_decimal, decimal_digit}
use Rattle.std.proofs.lemmas.Str.Parse.{IsNumeralModel, numerals_by_value, tells_digits, parse_plain, digit_at}
use Rattle.command_words.specs.declared.kinds.TheConstants.{NUMBER, RANGE}
use Rattle.command_words.specs.Values.{IsPlain, number_of, number_in}

-- the digits and their value are those of `digits_value`
own : IsNumeralModel (AllDigits 10) (digits_value 10)
own = numerals_by_value (AllDigits 10) tells_digits

-- a number is spelled by its decimal digits
pub number_of-decimal : (n : ℕ) → n < 2 ^ 64 → number_of (decimal n) ≡ Some n
unfolding number_of
number_of-decimal n small =
    let value = digits_value-decimal own n small in
    let same = (bytes_eq-Decides (decimal n) (decimal n)).1 refl in
    rw (value, same) (grind (arith, nat_tests))

-- what spells a number is its decimal digits
pub number_of-some : (bs : List ℕ) (n : ℕ) → number_of bs ≡ Some n → (bs ≡ decimal n) × (n < 2 ^ 64)
unfolding number_of
number_of-some bs n e =
    elim (nat_lt (digits_value 10 bs) (2 ^ 64)) as (λ b. nat_lt (digits_value 10 bs) (2 ^ 64) ≡ b →
    cond (b && bytes_eq bs (decimal (digits_value 10 bs))) (Some (digits_value 10 bs)) None ≡ Some n → (bs ≡ decimal n) × (n < 2 ^ 64)) [
      | true ↦ λ small. elim (bytes_eq bs (decimal (digits_value 10 bs))) as
          (λ b. bytes_eq bs (decimal (digits_value 10 bs)) ≡ b → cond b (Some (digits_value 10 bs)) None ≡ Some n →
          (bs ≡ decimal n) × (n < 2 ^ 64)) [
            | true ↦ λ same is. let spelled = (bytes_eq-Decides bs (decimal (digits_value 10 bs))).0 same in
                let value : digits_value 10 bs ≡ n = cc in
                (subst (λ k. bs ≡ decimal k) value spelled, grind (arith, nat_tests))
            | false ↦ λ same is. cc
          ] refl
      | false ↦ λ large is. cc
    ] refl e

-- a text that is no number's decimal digits spells none
pub number_of-none : (bs : List ℕ) → ((n : ℕ) → n < 2 ^ 64 → bs ≢ decimal n) → number_of bs ≡ None
number_of-none bs none =
    elim (number_of bs) as (λ r. number_of bs ≡ r → r ≡ None) [
      | Some n ↦ λ is. let s = number_of-some bs n is in absurd (none n s.1 s.0)
      | None ↦ λ is. refl
    ] refl

-- decimal digits begin with a digit, and with 0 only where nothing follows
IsPlain-decimal : (n : ℕ) → n < 2 ^ 64 → IsPlain (decimal n)
IsPlain-decimal n small =
    let some = decimal_nonempty n small in
    let digit = digit_at (decimal n) 0 (digits_decimal own n small) some in
    record {
      some_byte = some;
      digit_low = digit.0;
      digit_high = digit.1;
      no_leading_zero = λ zero.
          elim (nat_lt 0 n) as (λ b. nat_lt 0 n ≡ b → length (decimal n) ≡ 1) [
            | true ↦ λ positive. let first = first_decimal n (grind (arith, nat_tests)) small in omega arith
            | false ↦ λ none. let nothing : n ≡ 0 = grind (arith, nat_tests) in
                subst (λ k. length (decimal k) ≡ 1) (sym nothing) (ap length (decimal_digit 0 (omega arith)))
          ] refl;
    }

-- a text that isn't plain spells no number
pub number_of-not_plain : (bs : List ℕ) → (IsPlain bs → ⊥) → number_of bs ≡ None
number_of-not_plain bs not_plain =
    number_of-none bs (λ n small spelled. not_plain (subst IsPlain (sym spelled) (IsPlain-decimal n small)))

-- what `parse` gives of a plain text is the number that it spells
pub number_of-plain : {E : Type 0} (bs : List ℕ) (r : Result ℕ E) → ParsesUnsigned 64 10 bs r → IsPlain bs →
    result_ok r ≡ number_of bs
number_of-plain {E} bs r parsed plain =
    let no_sign : get_or bs 0 0 ≢ 43 = λ sign. let low = plain.digit_low in omega arith in
    elim r as (λ r. OkIff r (AllDigits 10 bs × (0 < length bs) × (digits_value 10 bs < 2 ^ 64)) (digits_value 10 bs) → result_ok r ≡ number_of bs) [
      | Ok x ↦ λ ok. let spelled = decimal-digits_value own bs ok.0.0 plain.some_byte plain.no_leading_zero ok.0.2 in
          ap Some ok.1 ∙ sym (ap number_of (sym spelled) ∙ number_of-decimal (digits_value 10 bs) ok.0.2)
      | Err e ↦ λ bad. sym (number_of-none bs (λ n small spelled.
          let digits = subst (AllDigits 10) (sym spelled) (digits_decimal own n small) in
          let value : digits_value 10 bs ≡ n = ap (digits_value 10) spelled ∙ digits_value-decimal own n small in
          bad (digits, plain.some_byte, omega arith)))
    ] (parse_plain own 64 bs r parsed no_sign)

-- a number in its range
pub number_in-good : (low high n : ℕ) (bs : List ℕ) → Some n ≡ number_of bs → low ≤ n → n ≤ high →
    number_in low high bs ≡ Ok n
unfolding number_in
number_in-good low high n bs is above below = rw (sym is) (grind (arith, nat_tests))

-- a number out of its range
pub number_in-low : (low high n : ℕ) (bs : List ℕ) → Some n ≡ number_of bs → n < low →
    number_in low high bs ≡ Err RANGE
unfolding number_in
number_in-low low high n bs is below = rw (sym is) (grind (arith, nat_tests))

-- a number above the range
pub number_in-high : (low high n : ℕ) (bs : List ℕ) → Some n ≡ number_of bs → high < n →
    number_in low high bs ≡ Err RANGE
unfolding number_in
number_in-high low high n bs is above = rw (sym is) (grind (arith, nat_tests))

-- a text that spells no number
pub number_in-none : (low high : ℕ) (bs : List ℕ) → None ≡ number_of bs → number_in low high bs ≡ Err NUMBER
unfolding number_in
number_in-none low high bs is = rw (sym is) refl

-- a number that a text spells is spelled by its digits
pub spelled_by : (bs : List ℕ) (r : Option ℕ) → r ≡ number_of bs → IfSome r (λ n. bs ≡ decimal n)
spelled_by bs (Some n) is = (number_of-some bs n (sym is)).0
spelled_by bs None is = tt

-- the digits of a number spell it
pub spells : (bs : List ℕ) (r : Option ℕ) → r ≡ number_of bs → (n : ℕ) → n < 2 ^ 64 → bs ≡ decimal n → r ≡ Some n
spells bs r is n small spelled = is ∙ ap number_of spelled ∙ number_of-decimal n small
