use Rattle.std.proofs.Common.{◌≡◌, ℕ, ◌+◌, ◌-◌, ◌≤◌, ◌++◌, length, sym, ap, subst, ◌∙◌, arith}
use Rattle.pthash.specs.Sizes.{front_count_of}
use Rattle.pilot_codecs.specs.declared.code.Code.{Code}
use Rattle.pilot_codecs.specs.Values.{values_of, code_of}
use Rattle.pilot_codecs.proofs.PairLaws.{pair_fits}
use Rattle.pilot_codecs.proofs.CodeLaws.{code_takes}
use Rattle.std.proofs.lemmas.List.{length-append}
use Rattle.pilot_codecs.specs.Spelling.{code_text, Fits}
use Rattle.pilot_codecs.proofs.pilots.read_pair.Goals as goal

pub invariant_of-result : goal.invariant_of-result
invariant_of-result c =
    let vs = values_of c.in_ok-front-in-None.front in
    let t = code_takes c.args.enc.front c.args.at c.args.count c.args.bytes.now vs c.in_ok-front-in-None.rest.now (λ i. omega (arith, c.type_inv.bytes i))
    c.requires.few c.in_ok-front-in-None.ensures.values in
    record {
      split = omega (arith, t.0.count_is, c.requires.few);
      fit = subst (λ (code : Code). Fits code vs) (sym c.in_ok-front-in-None.ensures.code) t.1;
    }

pub overflow_sub-place : goal.overflow_sub-place
overflow_sub-place c =
    let n = c.front_count-first.result in
    let fewer : n ≤ c.args.count = omega (arith, c.front_count-first.ensures) in
    let t = code_takes c.args.enc.front c.args.at n c.args.bytes.now (values_of c.in_ok-front-in-Some.front) c.in_ok-front-in-Some.rest.now
    (λ i. omega (arith, c.type_inv.bytes i)) (omega (arith, fewer, c.requires.few)) c.in_ok-front-in-Some.ensures.values in
    let shorter : length c.in_ok-front-in-Some.rest.now ≤ length c.args.bytes.now =
    omega (arith, ap length t.0.parts, length-append (code_text c.args.enc.front (values_of c.in_ok-front-in-Some.front)) c.in_ok-front-in-Some.rest.now) in
    shorter

pub read_part-requires-in-Some-2-clause-place : goal.read_part-requires-in-Some-2-clause-place
read_part-requires-in-Some-2-clause-place c =
    let n = c.front_count-first.result in
    let fewer : n ≤ c.args.count = omega (arith, c.front_count-first.ensures) in
    let t = code_takes c.args.enc.front c.args.at n c.args.bytes.now (values_of c.in_ok-front-in-Some.front) c.in_ok-front-in-Some.rest.now
    (λ i. omega (arith, c.type_inv.bytes i)) (omega (arith, fewer, c.requires.few)) c.in_ok-front-in-Some.ensures.values in
    let shorter : length c.in_ok-front-in-Some.rest.now ≤ length c.args.bytes.now =
    omega (arith, ap length t.0.parts, length-append (code_text c.args.enc.front (values_of c.in_ok-front-in-Some.front)) c.in_ok-front-in-Some.rest.now) in
    omega (arith, shorter, c.requires.place)

pub invariant_of-result-in-Some : goal.invariant_of-result-in-Some
invariant_of-result-in-Some c =
    let n = c.front_count-first.result in
    let xs = values_of c.in_ok-front-in-Some.front in
    let ys = values_of c.in_ok-back-in-Some.back in
    let bytes = c.args.bytes.now in
    let rest = c.in_ok-front-in-Some.rest.now in
    let fewer : n ≤ c.args.count = omega (arith, c.front_count-first.ensures) in
    let t = code_takes c.args.enc.front c.args.at n bytes xs rest (λ i. omega (arith, c.type_inv.bytes i)) (omega (arith, fewer, c.requires.few))
    c.in_ok-front-in-Some.ensures.values in
    let place = c.args.at + (length bytes - length rest) in
    let u = code_takes c.in-Some.code place (c.args.count - n) rest ys c.in_ok-back-in-Some.rest.now t.0.rest_fits (omega (arith, c.requires.few))
    c.in_ok-back-in-Some.ensures.values in
    let size : length (xs ++ ys) ≡ c.args.count = omega (arith, length-append xs ys, t.0.count_is, u.0.count_is, fewer) in
    let cut : length xs ≡ front_count_of (length (xs ++ ys)) = t.0.count_is ∙ c.front_count-first.ensures
    ∙ ap (λ (k : ℕ). front_count_of k) (sym size) in
    let first = subst (λ (code : Code). Fits code xs) (sym c.in_ok-front-in-Some.ensures.code) t.1 in
    let second = subst (λ (code : Code). Fits code ys) (sym c.in_ok-back-in-Some.ensures.code) u.1 in
    record {
      split = (cut, omega (arith, size, c.requires.few));
      fit = pair_fits (code_of c.in_ok-front-in-Some.front) (code_of c.in_ok-back-in-Some.back) xs ys cut first second;
    }
