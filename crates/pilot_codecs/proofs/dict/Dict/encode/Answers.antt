use Rattle.std.proofs.Common.{◌≡◌, ℕ, List, length, map, sym, ap, ◌∙◌, subst, arith}
use Rattle.pilot_codecs.specs.Spelling.{distinct, index_in}
use Rattle.pilot_codecs.proofs.DictLaws.{dict_made}
use Rattle.std.proofs.lemmas.List.{length-map}
use Rattle.pilot_codecs.proofs.DictLaws.{IsDictOf}
use Rattle.pilot_codecs.proofs.dict.Dict.encode.Goals as goal

pub indexes_of-requires-clause-distinct : goal.indexes_of-requires-clause-distinct
indexes_of-requires-clause-distinct c = c.deref.ensures.value ∙ c.in_ok-entries.ensures

pub encode-requires : goal.encode-requires
encode-requires c = omega (
  arith,
  c.requires,
  ap length (c.deref-2.ensures.value ∙ c.in_ok-indexes.ensures),
  length-map c.args.values.now (index_in c.deref.result.now),
)

pub invariant_of-result : goal.invariant_of-result
invariant_of-result c =
    let vs = c.args.values.now in
    let entries : c.in_ok-entries.entries.items ≡ distinct vs = c.in_ok-entries.ensures in
    let places : c.in_ok-places.places ≡ map (index_in (distinct vs)) vs =
    c.in_ok-places.ensures ∙ c.deref-2.ensures.value ∙ c.in_ok-indexes.ensures
    ∙ ap (λ (ds : List ℕ). map (index_in ds) vs) (c.deref.ensures.value ∙ entries) in
    let made : IsDictOf vs c.in_ok-entries.entries.items c.in_ok-places.places =
    subst (λ (ds : List ℕ). IsDictOf vs ds c.in_ok-places.places) (sym entries)
    (subst (λ (ps : List ℕ). IsDictOf vs (distinct vs) ps) (sym places) (dict_made vs)) in
    made.dict

pub returns : goal.returns
returns c =
    let vs = c.args.values.now in
    let entries : c.in_ok-entries.entries.items ≡ distinct vs = c.in_ok-entries.ensures in
    let places : c.in_ok-places.places ≡ map (index_in (distinct vs)) vs =
    c.in_ok-places.ensures ∙ c.deref-2.ensures.value ∙ c.in_ok-indexes.ensures
    ∙ ap (λ (ds : List ℕ). map (index_in ds) vs) (c.deref.ensures.value ∙ entries) in
    let made : IsDictOf vs c.in_ok-entries.entries.items c.in_ok-places.places =
    subst (λ (ds : List ℕ). IsDictOf vs ds c.in_ok-places.places) (sym entries)
    (subst (λ (ps : List ℕ). IsDictOf vs (distinct vs) ps) (sym places) (dict_made vs)) in
    made.same
