-- The place of a one and the low bits beside it are a value.
use Rattle.std.proofs.Common.{◌≡◌, ℕ, ◌+◌, ◌*◌, ◌-◌, ◌/◌, ◌^◌, ◌<◌, ◌≤◌, Bool, List, length, take, drop, get_or, Some}
use Rattle.std.proofs.Common.{sym, ap, subst, ◌∙◌, arith}
use Rattle.std.specs.Prelude.{IsSome}
use Rattle.std.specs.List.{slice_get}
use Rattle.std.proofs.lemmas.Nat.{mul-le}
use Rattle.bit_vector.specs.Bits.{number_of, ones, places}
use Rattle.bit_vector.proofs.CallerLemmas.{length-places_from, places-step}
use Rattle.elias_fano.specs.Values.{values_of, AreParts}
use Rattle.elias_fano.proofs.WidthLemmas.{low_width-le, high-few}
use Rattle.elias_fano.proofs.ValueLemmas.{get_or-joined, slice_get-some, place-le, low-lt}

-- a place, the low bits beside it, and what they are
pub record IsPart (count last w : ℕ) (low high : List Bool) (i place : ℕ) : Type 0 where
  pub before : i ≤ place
  pub value : (place - i) * 2 ^ w + number_of (take w (drop (i * w) low)) ≡ get_or (values_of w low high) i 0
  pub here : place < length high
  pub step : ones (take (place + 1) high) ≡ i + 1

-- the low bits of a value are within
pub record HasLow (w : ℕ) (low : List Bool) (i : ℕ) : Type 0 where
  pub few : i ≤ 2 ^ 36
  pub wide : w < 64
  pub within : i * w + w ≤ length low

-- each value has low bits
pub has_low : (count last w : ℕ) (low high : List Bool) (i : ℕ) → AreParts count last w low high → i < count → HasLow w low i
has_low count last w low high i p lt =
    record {
      few = omega (arith, p.few);
      wide = omega (arith, p.wide, low_width-le count last);
      within = omega (arith, p.low_len, mul-le (i + 1) w count w (omega arith) (omega arith));
    }

-- each value has a one
pub has_place : (count last w : ℕ) (low high : List Bool) (i : ℕ) → AreParts count last w low high → i < count → IsSome (slice_get (places high) i)
has_place count last w low high i p lt = slice_get-some (places high) i (omega (arith, length-places_from 0 high, p.ones_are))

-- the one of each value
pub part_is : (count last w : ℕ) (low high : List Bool) (i place : ℕ) → AreParts count last w low high → i < count →
    slice_get (places high) i ≡ Some place →
    IsPart count last w low high i place
part_is count last w low high i place p lt e =
    let start : i ≡ 0 + i = omega arith in
    let step = places-step high i place e in
    record {
      before = omega (arith, place-le 0 high i place e);
      value = ap (λ (x : ℕ). (place - x) * 2 ^ w + number_of (take w (drop (i * w) low))) start ∙ sym (get_or-joined w 0 (places high) low i place e);
      here = step.0;
      step = step.1;
    }

-- the value of a part
pub value_is : (count last w : ℕ) (low high : List Bool) (i place : ℕ) (here : ℕ × ℕ) → IsPart count last w low high i place →
    here.0 ≡ place - i →
    here.1 ≡ number_of (take w (drop (i * w) low)) → (here.0 * 2 ^ w + here.1 ≡ get_or (values_of w low high) i 0) × (here.1 < 2 ^ w)
value_is count last w low high i place here p high_is low_is = (
  ap (λ (x : ℕ). x * 2 ^ w + here.1) high_is ∙ ap (λ (x : ℕ). (place - i) * 2 ^ w + x) low_is ∙ p.value,
  subst (λ (x : ℕ). x < 2 ^ w) (sym low_is) (low-lt w (drop (i * w) low)),
)

-- there are few high bits
pub high-most : (count last w : ℕ) (low high : List Bool) → AreParts count last w low high → 0 < count → last < 2 ^ 64 → length high ≤ 2 ^ 40
high-most count last w low high p some fits =
    omega (arith, p.high_len_is, p.few, high-few count last some fits, ap (λ (x : ℕ). last / 2 ^ x) p.wide)
