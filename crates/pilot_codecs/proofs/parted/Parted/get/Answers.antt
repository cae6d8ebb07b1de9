use Rattle.std.proofs.Common.{◌≡◌, ℕ, List, Some, length, ap, ◌∙◌, arith}
use Rattle.std.specs.List.{flat_map, slice_get}
use Rattle.pilot_codecs.specs.Spelling.{groups_for, groups_of}
use Rattle.pilot_codecs.proofs.GroupLemmas.{within_group, get_or-group}
use Rattle.pilot_codecs.proofs.parted.Parted.get.Goals as goal

pub get-requires : goal.get-requires
get-requires c =
    let gs = c.self.inside.groups in
    let vs = flat_map (λ g. g) gs in
    let cut : groups_of (groups_for (length vs)) vs ≡ gs = ap (λ (k : ℕ). groups_of (groups_for k) vs) c.self.invariant.count_is
    ∙ c.self.invariant.cut in
    within_group gs vs c.args.i cut (omega (arith, c.self.invariant.count_is, c.if-i-self.false))

pub returns : goal.returns
returns c =
    let gs = c.self.inside.groups in
    let vs = flat_map (λ g. g) gs in
    let cut : groups_of (groups_for (length vs)) vs ≡ gs = ap (λ (k : ℕ). groups_of (groups_for k) vs) c.self.invariant.count_is
    ∙ c.self.invariant.cut in
    ap Some c.get.ensures ∙ get_or-group gs vs c.args.i cut (omega (arith, c.self.invariant.count_is, c.if-i-self.false))
    ∙ ap (λ (xs : List ℕ). slice_get xs c.args.i) c.self.view_is
