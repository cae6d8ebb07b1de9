-- Packed numbers that are read as many at a time as a word has room for, and their marks.
use Rattle.std.proofs.Common.{◌≡◌, ℕ, ◌+◌, ◌*◌, ◌-◌, ◌/◌, ◌%◌, ◌^◌, ◌<◌, ◌≤◌, Bool, true, false, List, length, get_or}
use Rattle.std.proofs.Common.{take, drop, set, refl, sym, ap, ◌∙◌, arith}
use Rattle.std.specs.Prelude.{◌||◌, bit_and}
use Rattle.std.proofs.Math.Nat.{le-div_iff_mul-le}
use Rattle.std.proofs.Math.Pow.{mod-mod-pow, field}
use Rattle.std.proofs.lemmas.Nat.{shr-shr, and_mask, mul-le}
use Rattle.std.proofs.lemmas.List.{length-set}
use Rattle.elias_fano.specs.Spelling.{is_among}
use Rattle.pilot_codecs.specs.Spelling.{greatest}
use Rattle.pilot_codecs.specs.Reading.{are_below}
use Rattle.pilot_codecs.specs.Parts.{values_in, IsCompact}
use Rattle.pilot_codecs.proofs.FieldLemmas.{digits_of-le, digits_of-pos}
use Rattle.pilot_codecs.proofs.DictLemmas.{are_below-step, is_among-nil, or_no, mark_more}

-- ---- the numbers of a word

-- a word has room for a number of at most its width
pub some_room : (w : ℕ) → 0 < w → w ≤ 64 → 0 < 64 / w
some_room w pos le = (le-div_iff_mul-le {k = w} {x = 1} {y = 64} pos).1 (omega (arith, le))

-- numbers that follow each other are within all of them
pub numbers_within : (count w i more : ℕ) → i + more ≤ count → i * w + more * w ≤ count * w
numbers_within count w i more le = omega (arith, mul-le (i + more) w count w le (omega arith))

-- a number of the bits of several
pub number_among : (n bits mask w i j many : ℕ) → j < many → mask ≡ 2 ^ w - 1 → bits ≡ n / 2 ^ (i * w) % 2 ^ (many * w) →
    bit_and (bits / 2 ^ (j * w)) mask ≡ n / 2 ^ ((i + j) * w) % 2 ^ w
number_among n bits mask w i j many lt m e =
    let x = n / 2 ^ (i * w) in
    let rest = many - (j + 1) in
    let count : many ≡ rest + 1 + j = omega (arith, lt) in
    let split : many * w ≡ (rest * w + w) + j * w = ap (λ (k : ℕ). k * w) count ∙ omega arith in
    let from : bits / 2 ^ (j * w) ≡ x / 2 ^ (j * w) % 2 ^ (rest * w + w) = ap (λ (k : ℕ). k / 2 ^ (j * w)) (e ∙ ap (λ (k : ℕ). x % 2 ^ k) split)
    ∙ field x (rest * w + w) (j * w) in
    let place : i * w + j * w ≡ (i + j) * w = omega arith in
    ap (λ (k : ℕ). bit_and (bits / 2 ^ (j * w)) k) m ∙ and_mask (bits / 2 ^ (j * w)) w ∙ ap (λ (k : ℕ). k % 2 ^ w) from
    ∙ mod-mod-pow (x / 2 ^ (j * w)) (rest * w) w ∙ ap (λ (k : ℕ). k % 2 ^ w) (shr-shr n (i * w) (j * w) ∙ ap (λ (k : ℕ). n / 2 ^ k) place)

-- packed numbers have at least one digit
pub width_some : (count w : ℕ) (ws : List ℕ) → IsCompact count w ws → 0 < w
width_some count w ws p = omega (arith, p.wide, digits_of-pos (greatest (values_in count w ws)))

-- and at most 64
pub width_most : (count w : ℕ) (ws : List ℕ) → IsCompact count w ws → w ≤ 64
width_most count w ws p = omega (arith, p.wide, digits_of-le (greatest (values_in count w ws)))

-- ---- marks

-- the first numbers have marks, and no mark is set but these and those before
pub record AreMarked (old new : List Bool) (vs : List ℕ) (i : ℕ) : Type 0 where
  pub len : length new ≡ length old
  pub below : are_below (length old) (drop i vs) ≡ are_below (length old) vs
  pub each : (d : ℕ) → d < length old → get_or new d false ≡ (get_or old d false || is_among d (take i vs))

-- at first none is set
pub marked_none : (old : List Bool) (vs : List ℕ) → AreMarked old old vs 0
marked_none old vs = record {
  len = refl;
  below = refl;
  each = λ d lt. sym (ap (λ (b : Bool). get_or old d false || b) (is_among-nil d) ∙ or_no (get_or old d false));
}

-- one number more is marked
pub marked_next : (old new : List Bool) (vs : List ℕ) (i p : ℕ) → i < length vs → p ≡ get_or vs i 0 → p < length new → AreMarked old new vs i →
    AreMarked old (set new p true) vs (i + 1)
marked_next old new vs i p lt e small m = record {
  len = length-set new p true ∙ m.len;
  below = sym (are_below-step (length old) vs i lt (omega (arith, e, small, m.len))) ∙ m.below;
  each = λ d within. mark_more new vs i p d (get_or old d false) lt e small (m.each d within);
}
