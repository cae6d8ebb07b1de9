use Rattle.std.proofs.Common.{◌≡◌, ◌<◌, ◌||◌, ◌++◌, ◌∷◌, ◌∙◌}
use Rattle.std.proofs.Common.{ℕ, [], List, true, false, length, take, get_or, sym, ap, subst, arith}
use Rattle.std.specs.Prelude.{bit_xor, ◌%◌}
use Rattle.std.proofs.Math.Bool.{or-true}
use Rattle.std.proofs.lemmas.Bool.{not-true}
use Rattle.std.proofs.lemmas.List.{take_more, take_more_set}
use Rattle.std.specs.FinSet.{contains}
use Rattle.pthash.specs.Search.{is_among}
use Rattle.pilot_search.specs.Marking.{AreMarks}
use Rattle.pilot_search.specs.Table.{positions_under}
use Rattle.pilot_search.proofs.Fitting.{fails_at, fits_at, known_from_not, get_or-positions_under, length-positions_under}
use Rattle.pilot_search.proofs.fit.fitting_front.Goals as goal

pub returns-then-contains-clause-some : goal.returns-then-contains-clause-some
returns-then-contains-clause-some c = λ _.
    let size : ℕ = c.args.occupied.now.size in
    let members : List ℕ = c.args.members.now in
    let i : ℕ = c.loop-i.i in
    let p : ℕ = c.remainder-position.result in
    let taken = contains c.args.occupied.now.taken in
    let places : List ℕ = positions_under c.args.hash size members in
    let in_range : i < length places = omega (arith, length-positions_under c.args.hash size members) in
    let here : get_or places i 0 ≡ p =
    get_or-positions_under c.args.hash size members i (omega arith)
    ∙ ap (λ s. bit_xor (get_or members i 0) c.args.hash % s) (sym c.requires.size) ∙ sym c.remainder-position.ensures.value in
    let known : taken p ≡ true = sym c.contains.ensures ∙ c.if-contains.true in
    fails_at taken places i p in_range here (ap (λ b. b || is_among (take i places) p) known)

pub returns-then-not-mark_new-clause-some : goal.returns-then-not-mark_new-clause-some
returns-then-not-mark_new-clause-some c = λ _.
    let size : ℕ = c.args.occupied.now.size in
    let members : List ℕ = c.args.members.now in
    let i : ℕ = c.loop-i.i in
    let p : ℕ = c.remainder-position.result in
    let taken = contains c.args.occupied.now.taken in
    let places : List ℕ = positions_under c.args.hash size members in
    let in_range : i < length places = omega (arith, length-positions_under c.args.hash size members) in
    let here : get_or places i 0 ≡ p =
    get_or-positions_under c.args.hash size members i (omega arith)
    ∙ ap (λ s. bit_xor (get_or members i 0) c.args.hash % s) (sym c.requires.size) ∙ sym c.remainder-position.ensures.value in
    let again : is_among (take i places) p ≡ true =
    ap (λ ps. is_among ps p) (sym c.loop-i.invariant.places)
    ∙ known_from_not (is_among (take i c.loop-i.positions) p) (sym c.mark_new.ensures.new ∙ c.if-not-mark_new.true) in
    fails_at taken places i p in_range here (ap (λ b. taken p || b) again ∙ or-true (taken p))

pub loop-i-preserved : goal.loop-i-preserved
loop-i-preserved c =
    let size : ℕ = c.args.occupied.now.size in
    let members : List ℕ = c.args.members.now in
    let i : ℕ = c.loop-i.i in
    let p : ℕ = c.remainder-position.result in
    let taken = contains c.args.occupied.now.taken in
    let places : List ℕ = positions_under c.args.hash size members in
    let in_range : i < length places = omega (arith, length-positions_under c.args.hash size members) in
    let here : get_or places i 0 ≡ p =
    get_or-positions_under c.args.hash size members i (omega arith)
    ∙ ap (λ s. bit_xor (get_or members i 0) c.args.hash % s) (sym c.requires.size) ∙ sym c.remainder-position.ensures.value in
    let free : taken p ≡ false = sym c.contains.ensures ∙ c.if-contains.false in
    let new : is_among (take i places) p ≡ false =
    ap (λ ps. is_among ps p) (sym c.loop-i.invariant.places)
    ∙ not-true (is_among (take i c.loop-i.positions) p) (sym c.mark_new.ensures.new ∙ c.if-not-mark_new.false) in
    record {
      fit = fits_at taken places i p in_range here c.loop-i.invariant.fit free new;
      places =
          take_more_set c.loop-i.positions i p (omega arith)
          ∙ ap (λ ps. ps ++ p ∷ []) c.loop-i.invariant.places
          ∙ ap (λ q. take i places ++ q ∷ []) (sym here)
          ∙ sym (take_more places i 0 in_range);
      marks = subst (AreMarks c.mark_new.new.marks) (sym (take_more_set c.loop-i.positions i p (omega arith)))
          (c.mark_new.ensures.marked c.if-not-mark_new.false);
    }
