use Rattle.std.proofs.Common.{◌≡◌, ◌<◌, ◌||◌, ◌++◌, ◌∷◌, ◌∙◌}
use Rattle.std.proofs.Common.{ℕ, [], List, true, false, length, take, get_or, sym, ap, subst, arith}
use Rattle.std.specs.Prelude.{bit_xor, ◌%◌, slice_index, slice_set}
use Rattle.std.proofs.Math.Bool.{or-true}
use Rattle.std.proofs.lemmas.Bool.{eq-eqb, ne_eqb}
use Rattle.std.proofs.lemmas.List.{take_more}
use Rattle.std.specs.FinSet.{contains}
use Rattle.pthash.specs.Search.{is_among}
use Rattle.pilot_search.specs.Stamping.{AreStamped}
use Rattle.pilot_search.specs.Table.{positions_under}
use Rattle.pilot_search.proofs.Fitting.{fails_at, fits_at, get_or-positions_under, length-positions_under}
use Rattle.pilot_search.proofs.StampLemmas.{stamped_more}
use Rattle.pilot_search.proofs.stamps.is_fit_stamped.Goals as goal

pub returns-then-stamps-position-clause-fits : goal.returns-then-stamps-position-clause-fits
returns-then-stamps-position-clause-fits c =
    let size : ℕ = c.args.occupied.now.size in
    let members : List ℕ = c.args.members.now in
    let i : ℕ = c.loop-member.member-index in
    let p : ℕ = c.remainder-position.result in
    let taken = contains c.args.occupied.now.taken in
    let places : List ℕ = positions_under c.args.hash size members in
    let in_range : i < length places = omega (arith, length-positions_under c.args.hash size members) in
    let here : get_or places i 0 ≡ p =
    get_or-positions_under c.args.hash size members i (omega arith)
    ∙ ap (λ s. bit_xor (get_or members i 0) c.args.hash % s) (sym c.requires.size) ∙ sym c.remainder-position.ensures.value in
    let again : is_among (take i places) p ≡ true =
    sym (c.loop-member.invariant.stamped.held p) ∙ eq-eqb (slice_index c.loop-member.stamps p) c.args.stamp c.if-stamps-position.true in
    sym (fails_at taken places i p in_range here (ap (λ b. taken p || b) again ∙ or-true (taken p)))

pub returns-then-is_taken-clause-fits : goal.returns-then-is_taken-clause-fits
returns-then-is_taken-clause-fits c =
    let size : ℕ = c.args.occupied.now.size in
    let members : List ℕ = c.args.members.now in
    let i : ℕ = c.loop-member.member-index in
    let p : ℕ = c.remainder-position.result in
    let taken = contains c.args.occupied.now.taken in
    let places : List ℕ = positions_under c.args.hash size members in
    let in_range : i < length places = omega (arith, length-positions_under c.args.hash size members) in
    let here : get_or places i 0 ≡ p =
    get_or-positions_under c.args.hash size members i (omega arith)
    ∙ ap (λ s. bit_xor (get_or members i 0) c.args.hash % s) (sym c.requires.size) ∙ sym c.remainder-position.ensures.value in
    let known : taken p ≡ true = sym c.is_taken.ensures ∙ c.if-is_taken.true in
    sym (fails_at taken places i p in_range here (ap (λ b. b || is_among (take i places) p) known))

pub loop-member-preserved : goal.loop-member-preserved
loop-member-preserved c =
    let size : ℕ = c.args.occupied.now.size in
    let members : List ℕ = c.args.members.now in
    let i : ℕ = c.loop-member.member-index in
    let p : ℕ = c.remainder-position.result in
    let taken = contains c.args.occupied.now.taken in
    let places : List ℕ = positions_under c.args.hash size members in
    let stamps : List ℕ = c.loop-member.stamps in
    let so_far : AreStamped stamps c.args.stamp (take i places) = c.loop-member.invariant.stamped in
    let in_range : i < length places = omega (arith, length-positions_under c.args.hash size members) in
    let here : get_or places i 0 ≡ p =
    get_or-positions_under c.args.hash size members i (omega arith)
    ∙ ap (λ s. bit_xor (get_or members i 0) c.args.hash % s) (sym c.requires.size) ∙ sym c.remainder-position.ensures.value in
    let free : taken p ≡ false = sym c.is_taken.ensures ∙ c.if-is_taken.false in
    let new : is_among (take i places) p ≡ false =
    sym (so_far.held p) ∙ ne_eqb (slice_index stamps p) c.args.stamp c.if-stamps-position.false in
    record {
      fit = fits_at taken places i p in_range here c.loop-member.invariant.fit free new;
      stamped = subst (AreStamped (slice_set stamps p c.args.stamp) c.args.stamp)
          (ap (λ q. take i places ++ q ∷ []) (sym here) ∙ sym (take_more places i 0 in_range))
          (stamped_more stamps (take i places) c.args.stamp p (omega arith) so_far);
    }
