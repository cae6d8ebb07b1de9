use Rattle.std.proofs.Common.{◌≡◌, ℕ, ◌^◌, ◌<◌, ◌≤◌, ◌++◌, List, length, take, drop, Some, sym, ap, ◌∙◌, arith}
use Rattle.std.proofs.lemmas.List.{length-take, take-append-drop}
use Rattle.pthash.specs.Sizes.{front_count_of}
use Rattle.pilot_codecs.specs.Spelling.{greatest}
use Rattle.pilot_codecs.specs.Values.{values_of, code_of}
use Rattle.pilot_codecs.proofs.GroupLaws.{greatest-take, greatest-drop}
use Rattle.pilot_codecs.proofs.PairLaws.{all_small, fits_small, split_small}
use Rattle.pilot_codecs.proofs.pilots.Pilots.encode.Goals as goal

pub encode_part-requires-clause-small : goal.encode_part-requires-clause-small
encode_part-requires-clause-small c = all_small c.args.values.now c.requires.small

pub encode_part-requires-in-Some-clause-small : goal.encode_part-requires-in-Some-clause-small
encode_part-requires-in-Some-clause-small c = omega (
  arith,
  all_small c.args.values.now c.requires.small,
  ap (λ (xs : List ℕ). greatest xs) c.split_at.ensures.front,
  greatest-take c.front_count.result c.args.values.now,
)

pub encode_part-requires-in-Some-2-clause-small : goal.encode_part-requires-in-Some-2-clause-small
encode_part-requires-in-Some-2-clause-small c = omega (
  arith,
  all_small c.args.values.now c.requires.small,
  ap (λ (xs : List ℕ). greatest xs) c.split_at.ensures.back,
  greatest-drop c.front_count.result c.args.values.now,
)

pub invariant_of-result : goal.invariant_of-result
invariant_of-result c =
    let vs = values_of c.in_ok-front-in-None.front in
    let few : length vs ≤ 2 ^ 30 = omega (arith, ap length c.in_ok-front-in-None.ensures.values, c.requires.few) in
    let small : greatest vs < 2 ^ 32 =
    omega (arith, ap (λ (xs : List ℕ). greatest xs) c.in_ok-front-in-None.ensures.values, all_small c.args.values.now c.requires.small) in
    record { split = few; fit = fits_small (code_of c.in_ok-front-in-None.front) vs few small }

pub invariant_of-result-in-Some : goal.invariant_of-result-in-Some
invariant_of-result-in-Some c =
    let vs = c.args.values.now in
    let n = c.front_count.result in
    let xs = values_of c.in_ok-front-in-Some.front in
    let ys = values_of c.in_ok-back-in-Some.back in
    let front : xs ≡ take n vs = c.in_ok-front-in-Some.ensures.values ∙ c.split_at.ensures.front in
    let back : ys ≡ drop n vs = c.in_ok-back-in-Some.ensures.values ∙ c.split_at.ensures.back in
    let whole : xs ++ ys ≡ vs = ap (λ (t : List ℕ). t ++ ys) front ∙ ap (λ (t : List ℕ). take n vs ++ t) back ∙ take-append-drop n vs in
    let few : length (xs ++ ys) ≤ 2 ^ 30 = omega (arith, ap length whole, c.requires.few) in
    let small : greatest (xs ++ ys) < 2 ^ 32 = omega (arith, ap (λ (t : List ℕ). greatest t) whole, all_small vs c.requires.small) in
    let share : n ≤ length vs = omega (arith, c.front_count.ensures) in
    let size : length xs ≡ n = omega (arith, ap length front, length-take n vs, share) in
    let cut : length xs ≡ front_count_of (length (xs ++ ys)) = size ∙ c.front_count.ensures
    ∙ ap (λ (t : List ℕ). front_count_of (length t)) (sym whole) in
    record { split = (cut, few); fit = split_small (code_of c.in_ok-front-in-Some.front) (Some (code_of c.in_ok-back-in-Some.back)) (xs ++ ys) few small }
