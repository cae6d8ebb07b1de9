use Rattle.std.proofs.Common.{ℕ, List, ◌≡◌, true, false, take, get_or, sym, ◌∙◌, refl, arith}
use Rattle.pthash.specs.Search.{is_among}
use Rattle.pilot_search.proofs.Fitting.{repeats_at, distinct_at}
use Rattle.pilot_search.proofs.repeats.are_apart.Goals as goal

pub returns-then-contains : goal.returns-then-contains
returns-then-contains c =
    let numbers : List ℕ = c.args.numbers.now in
    let i : ℕ = c.loop-i.i in
    let again : is_among (take i numbers) (get_or numbers i 0) ≡ true = sym c.contains.ensures.value ∙ c.if-contains.true in
    sym (repeats_at numbers i (get_or numbers i 0) (omega arith) refl again)

pub loop-i-preserved : goal.loop-i-preserved
loop-i-preserved c =
    let numbers : List ℕ = c.args.numbers.now in
    let i : ℕ = c.loop-i.i in
    let new : is_among (take i numbers) (get_or numbers i 0) ≡ false = sym c.contains.ensures.value ∙ c.if-contains.false in
    distinct_at numbers i (get_or numbers i 0) (omega arith) refl c.loop-i.invariant new
