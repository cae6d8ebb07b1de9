use Rattle.std.proofs.Common.{ℕ, List, length, Some, None, sym, ap, ◌∙◌, arith}
use Rattle.std.specs.List.{slice_get}
use Rattle.pilot_codecs.proofs.DictLaws.{slice_get-looked_up, got_below}
use Rattle.std.proofs.lemmas.List.{get_or_read}
use Rattle.pilot_codecs.proofs.dict.Dict.get.Goals as goal

pub index-requires : goal.index-requires
index-requires c = omega (
  arith,
  got_below (length c.self.inside.entries.items) c.self.inside.places c.args.i c.in-Some.place c.self.invariant.below c.in-Some.ensures,
  c.self.inside.entries.ok.0,
)

pub returns-in-None : goal.returns-in-None
returns-in-None c = sym (slice_get-looked_up c.self.inside.entries.items c.self.inside.places c.args.i None c.in-None.ensures)
    ∙ ap (λ (vs : List ℕ). slice_get vs c.args.i) c.self.view_is

pub returns-in-Some : goal.returns-in-Some
returns-in-Some c =
    let ds = c.self.inside.entries.items in
    let lt = got_below (length ds) c.self.inside.places c.args.i c.in-Some.place c.self.invariant.below c.in-Some.ensures in
    ap Some (get_or_read ds c.in-Some.place c.index.result.now lt c.index.ensures 0)
    ∙ sym (slice_get-looked_up ds c.self.inside.places c.args.i (Some c.in-Some.place) c.in-Some.ensures)
    ∙ ap (λ (vs : List ℕ). slice_get vs c.args.i) c.self.view_is
