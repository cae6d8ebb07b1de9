use Rattle.std.proofs.Common.{◌≡◌, ◌<◌, ℕ, List, [], ◌∷◌, ◌++◌, get_or, map, take, sym, ap, ◌∙◌, refl, arith}
use Rattle.std.proofs.lemmas.List.{map_more}
use Rattle.pthash.specs.declared.Record.{Record}
use Rattle.bucket_map.specs.PartitionPlaces.{NO_RECORD}
use Rattle.build_outcome.specs.PartLaws.{pair_number, part_value-some}
use Rattle.callers.proofs.OwnNumbers.{some_is}
use Rattle.callers.proofs.partitions.numbers_in.Goals as goal

pub unwrap-number-requires : goal.unwrap-number-requires
unwrap-number-requires c =
    let some : 0 < c.args.part.now.n = c.requires (omega (arith, c.loop-record-test.true)) in
    rw (c.value.ensures.value ∙ part_value-some c.args.spread c.args.seed c.args.part.now _ _ some) refl

pub loop-record-preserved : goal.loop-record-preserved
loop-record-preserved c =
    let records : List Record = c.args.records.now in
    let k = c.loop-record.record-index in
    let f : Record → ℕ = λ r. pair_number c.args.spread c.args.seed c.args.part.now r.a r.b in
    let some : 0 < c.args.part.now.n = c.requires (omega (arith, c.loop-record-test.true)) in
    let number : c.unwrap-number.result ≡ f (get_or records k NO_RECORD) =
    some_is _ _ (sym c.unwrap-number.ensures ∙ c.value.ensures.value ∙ part_value-some c.args.spread c.args.seed c.args.part.now _ _ some) in
    c.in_ok-push.ensures.items
    ∙ ap (λ (ns : List ℕ). ns ++ c.unwrap-number.result ∷ []) c.loop-record.invariant
    ∙ ap (λ (n : ℕ). map f (take k records) ++ n ∷ []) number
    ∙ sym (map_more f records k NO_RECORD c.loop-record-test.true)
