use Rattle.std.proofs.Common.{◌≡◌, ℕ, ◌+◌, ◌-◌, ◌<◌, ◌≤◌, List, false, take, get_or, refl, sym, ap, arith, ⊎_elim}
use Rattle.std.proofs.lemmas.Bool.{cases_lt}
use Rattle.pthash.specs.Search.{is_among}
use Rattle.pilot_search.proofs.Fitting.{distinct_at, distinct_one, repeats_at}
use Rattle.pilot_search.proofs.Sorting.{last_among, no_less, none_among}
use Rattle.pilot_search.proofs.repeats.are_rising.Goals as goal

pub loop-i-init : goal.loop-i-init
loop-i-init c =
    let numbers : List ℕ = c.args.numbers.now in
    record {
      some = omega arith;
      distinct = distinct_one numbers;
      rising = λ k lower. let first : k ≡ 0 = omega (arith, lower) in omega (arith, ap (λ j. get_or numbers j 0) first);
    }

pub returns-then-numbers-i : goal.returns-then-numbers-i
returns-then-numbers-i c =
    let numbers : List ℕ = c.args.numbers.now in
    let i : ℕ = c.loop-i.i in
    let same : get_or numbers (i - 1) 0 ≡ get_or numbers i 0 = omega (arith, no_less numbers i c.requires c.loop-i.invariant.some (omega arith)) in
    sym (repeats_at numbers i (get_or numbers i 0) (omega arith) refl
    (last_among numbers i (get_or numbers i 0) c.loop-i.invariant.some (omega arith) same))

pub loop-i-preserved : goal.loop-i-preserved
loop-i-preserved c =
    let numbers : List ℕ = c.args.numbers.now in
    let i : ℕ = c.loop-i.i in
    let new : is_among (take i numbers) (get_or numbers i 0) ≡ false = none_among numbers i (get_or numbers i 0) (omega arith)
    (λ k lower. omega (arith, c.loop-i.invariant.rising k lower)) in
    record {
      some = omega arith;
      distinct = distinct_at numbers i (get_or numbers i 0) (omega arith) refl c.loop-i.invariant.distinct new;
      rising = λ k lower.
          let next : i + 1 - 1 ≡ i = omega arith in
          ⊎_elim
          (λ (earlier : k < i). omega (arith, c.loop-i.invariant.rising k earlier, ap (λ j. get_or numbers j 0) next))
          (λ (last : i ≤ k). let same : k ≡ i = omega arith in omega (arith, ap (λ j. get_or numbers j 0) same, ap (λ j. get_or numbers j 0) next))
          (cases_lt k i);
    }
