-- What has a spelling, how long it is, and where it stands.
use Rattle.std.proofs.Common.{◌≡◌, ℕ, zero, suc, ◌+◌, ◌-◌, ◌*◌, ◌^◌, ◌<◌, ◌≤◌, List, ◌++◌}
use Rattle.std.proofs.Common.{length, get_or, map, take, drop, Option, Some, None}
use Rattle.std.proofs.Common.{refl, sym, ap, ◌∙◌, subst, append_assoc, arith}
use Rattle.std.specs.List.{flat_map}
use Rattle.std.proofs.lemmas.Nat.{mul-le}
use Rattle.std.proofs.lemmas.List.{drop_at, take_at, length-append, length-take, length-drop}
use Rattle.pthash.specs.Sizes.{front_count_of}
use Rattle.bit_vector.specs.Bits.{bits_of_each}
use Rattle.bit_vector.proofs.CallerLemmas.{length-bits_of_each}
use Rattle.elias_fano.specs.Spelling.{number, run, IsRising}
use Rattle.elias_fano.proofs.CallerLemmas.{length-numbers, length-run, length-ef_text}
use Rattle.pilot_codecs.specs.declared.code.Code.{Code}
use Rattle.pilot_codecs.specs.declared.code.Code.TheVariants as codes
use Rattle.pilot_codecs.specs.declared.code.Encoding.{Encoding}
use Rattle.pilot_codecs.specs.Spelling.{digits_of, greatest, groups_of, groups_for, compact_text, parted_text, distinct, index_in, dict_text, sums_from}
use Rattle.pilot_codecs.specs.Spelling.{code_text, split_text}
use Rattle.pilot_codecs.specs.Spelling.{pair_text, Fits}
use Rattle.pilot_codecs.specs.Encoded.{FitSplit, IsSpelled}
use Rattle.pilot_codecs.proofs.FieldLemmas.{digits_of-le}
use Rattle.pilot_codecs.proofs.DictMembers.{greatest_within}
use Rattle.pilot_codecs.proofs.DictLaws.{few_distinct}
use Rattle.pilot_codecs.proofs.GroupLaws.{greatest-take, greatest-drop}
use Rattle.pilot_codecs.proofs.SumLemmas.{length-sums_from, rises-sums_from, IsRising-sums_from}
use Rattle.pilot_codecs.proofs.CodeLaws.{front_le}

-- ---- what has a spelling

-- the greatest is small where each is
pub all_small : (vs : List ℕ) → ((i : ℕ) → get_or vs i 0 < 2 ^ 32) → greatest vs < 2 ^ 32
all_small vs h = omega (arith, greatest_within (2 ^ 32 - 1) vs (λ i lt. omega (arith, h i)))

-- few small values have a spelling under each code
pub fits_small : (code : Code) (vs : List ℕ) → length vs ≤ 2 ^ 30 → greatest vs < 2 ^ 32 → Fits code vs
fits_small codes.EliasFano vs few small = ((IsRising-sums_from vs small few).fits, few)
fits_small codes.Compact vs few small = (omega (arith, small), few)
fits_small codes.Parted vs few small = (omega (arith, small), few)
fits_small codes.Dict vs few small = (omega (arith, small), few)

-- and under each pair
pub split_small : (front : Code) (back : Option Code) (vs : List ℕ) → length vs ≤ 2 ^ 30 → greatest vs < 2 ^ 32 → FitSplit front back vs
split_small front None vs few small = fits_small front vs few small
split_small front (Some back) vs few small =
    let n = front_count_of (length vs) in (
      fits_small front (take n vs) (omega (arith, length-take n vs)) (omega (arith, greatest-take n vs)),
      fits_small back (drop n vs) (omega (arith, length-drop n vs)) (omega (arith, greatest-drop n vs)),
    )

-- two lists that have one each have one together, where the first is the front part
pub pair_fits : (front back : Code) (xs ys : List ℕ) → length xs ≡ front_count_of (length (xs ++ ys)) → Fits front xs → Fits back ys →
    FitSplit front (Some back) (xs ++ ys)
pair_fits front back xs ys cut f g =
    let all = xs ++ ys in
    let first : take (front_count_of (length all)) all ≡ xs = ap (λ (k : ℕ). take k all) (sym cut) ∙ take_at xs ys (length xs) refl in
    let second : drop (front_count_of (length all)) all ≡ ys = ap (λ (k : ℕ). drop k all) (sym cut) ∙ drop_at xs ys (length xs) refl in
    (subst (λ (x : List ℕ). Fits front x) (sym first) f, subst (λ (x : List ℕ). Fits back x) (sym second) g)

-- ---- how long a spelling is

-- at most 8 bytes a value and 16 more
length-compact_text : (vs : List ℕ) → length (compact_text vs) ≤ 8 * length vs + 16
unfolding compact_text
length-compact_text vs =
    let d = digits_of (greatest vs) in
    let bits = bits_of_each d vs in
    let most : length bits ≤ length vs * 64 =
    omega (arith, length-bits_of_each d vs, mul-le (length vs) d (length vs) 64 (omega arith) (digits_of-le (greatest vs))) in
    omega (arith, length-append (number d) (run bits), length-run bits, most)

-- the same of groups, 16 more for each
length-groups : (n : ℕ) (vs : List ℕ) → length (flat_map compact_text (groups_of n vs)) ≤ 8 * length vs + 16 * n
unfolding groups_of
length-groups zero vs = omega arith
length-groups (suc n) vs =
    let first = take 256 vs in
    let others = drop 256 vs in
    omega (
      arith,
      length-append (compact_text first) (flat_map compact_text (groups_of n others)),
      length-compact_text first,
      length-groups n others,
      length-take 256 vs,
      length-drop 256 vs,
    )

-- at most 16 bytes a value and 40 more
pub length-code_text : (code : Code) (vs : List ℕ) → Fits code vs → length (code_text code vs) ≤ 16 * length vs + 40
unfolding parted_text dict_text
length-code_text codes.Compact vs f = omega (arith, length-compact_text vs)
length-code_text codes.Parted vs f = omega (arith, length-groups (groups_for (length vs)) vs)
length-code_text codes.Dict vs f =
    let ds = distinct vs in
    let places = map (index_in ds) vs in
    omega (
      arith,
      length-append (number (length ds) ++ flat_map number ds) (compact_text places),
      length-append (number (length ds)) (flat_map number ds),
      length-numbers ds,
      length-compact_text places,
      Rattle.std.proofs.lemmas.List.length-map vs (index_in ds),
      few_distinct vs,
    )
length-code_text codes.EliasFano vs f =
    let n = length-sums_from 0 vs in
    let r : IsRising (sums_from 0 vs) = record { rising = rises-sums_from 0 vs; fits = f.0; few = omega (arith, n, f.1) } in
    omega (arith, length-ef_text (sums_from 0 vs) r, n)

-- at most 16 bytes a value and 80 more
pub length-split_text : (front : Code) (back : Option Code) (vs : List ℕ) → FitSplit front back vs →
    length (split_text front back vs) ≤ 16 * length vs + 80
length-split_text front None vs f = omega (arith, length-code_text front vs f)
length-split_text front (Some back) vs f =
    let n = front_count_of (length vs) in
    omega (
      arith,
      length-append (code_text front (take n vs)) (code_text back (drop n vs)),
      length-code_text front (take n vs) f.0,
      length-code_text back (drop n vs) f.1,
      length-take n vs,
      length-drop n vs,
      front_le (length vs),
    )

-- ---- where a spelling stands

-- a list that stands between others is spelled there
pub spelled_among : (enc : Encoding) (before vs after : List ℕ) → FitSplit enc.front enc.back vs →
    IsSpelled (before ++ pair_text enc vs ++ after) (length before) (length vs) enc vs (length before + length (pair_text enc vs))
spelled_among enc before vs after f =
    let text = pair_text enc vs in
    let whole : before ++ text ++ after ≡ before ++ (text ++ after) = append_assoc before text after in
    let behind : drop (length before) (before ++ text ++ after) ≡ text ++ after =
    ap (λ (t : List ℕ). drop (length before) t) whole ∙ drop_at before (text ++ after) (length before) refl in
    let rest : drop (length before + length text) (before ++ text ++ after) ≡ after =
    drop_at (before ++ text) after (length before + length text) (length-append before text) in
    record {
      fit = f;
      count_is = refl;
      next_is = refl;
      text = behind ∙ ap (λ (t : List ℕ). text ++ t) (sym rest);
    }
