use Rattle.std.proofs.Common.{◌≡◌, ℕ, ◌<◌, ◌++◌, ◌∷◌, [], List, length, take, get_or, sym, ap, ◌∙◌, arith}
use Rattle.std.specs.Prelude.{bit_xor, ◌%◌}
use Rattle.std.proofs.lemmas.List.{take_more, take_more_set}
use Rattle.std.specs.FinSet.{contains}
use Rattle.pilot_search.specs.Table.{positions_under}
use Rattle.pilot_search.proofs.Fitting.{free_at, taken_at, get_or-positions_under, length-positions_under}
use Rattle.pilot_search.proofs.fit.are_free.Goals as goal

pub returns-then-contains-clause-free : goal.returns-then-contains-clause-free
returns-then-contains-clause-free c =
    let size : ℕ = c.args.occupied.now.size in
    let members : List ℕ = c.args.members.now in
    let i : ℕ = c.loop-i.i in
    let p : ℕ = c.remainder-position.result in
    let taken = contains c.args.occupied.now.taken in
    let places : List ℕ = positions_under c.args.hash size members in
    let in_range : i < length places = omega (arith, length-positions_under c.args.hash size members) in
    let here : get_or places i 0 ≡ p =
    get_or-positions_under c.args.hash size members i (omega arith)
    ∙ ap (λ s. bit_xor (get_or members i 0) c.args.hash % s) (sym c.requires.size) ∙ sym c.remainder-position.ensures.value in
    sym (taken_at taken places i p in_range here (sym c.contains.ensures ∙ c.if-contains.true))

pub loop-i-preserved : goal.loop-i-preserved
loop-i-preserved c =
    let size : ℕ = c.args.occupied.now.size in
    let members : List ℕ = c.args.members.now in
    let i : ℕ = c.loop-i.i in
    let p : ℕ = c.remainder-position.result in
    let taken = contains c.args.occupied.now.taken in
    let places : List ℕ = positions_under c.args.hash size members in
    let in_range : i < length places = omega (arith, length-positions_under c.args.hash size members) in
    let here : get_or places i 0 ≡ p =
    get_or-positions_under c.args.hash size members i (omega arith)
    ∙ ap (λ s. bit_xor (get_or members i 0) c.args.hash % s) (sym c.requires.size) ∙ sym c.remainder-position.ensures.value in
    record {
      free = free_at taken places i p in_range here c.loop-i.invariant.free (sym c.contains.ensures ∙ c.if-contains.false);
      places =
          take_more_set c.loop-i.positions i p (omega arith)
          ∙ ap (λ ps. ps ++ p ∷ []) c.loop-i.invariant.places
          ∙ ap (λ q. take i places ++ q ∷ []) (sym here)
          ∙ sym (take_more places i 0 in_range);
    }
