use Rattle.std.proofs.Common.{◌++◌, sym, ap, subst, ◌∙◌}
use Rattle.std.specs.Prelude.{Some, All}
use Rattle.bucket_map.specs.ShapeData.{shape_data}
use Rattle.build_outcome.specs.Index.{KeyMarkData, IndexData}
use Rattle.build_outcome.specs.Validity.{IsValidIndex}
use Rattle.index_text.specs.Text.{fields_of, body_text}
use Rattle.index_file.specs.Encoded.{marked}
use Rattle.index_file.specs.Pieces.{HasPilots}
use Rattle.index_file.proofs.BuiltWritten.{index_pilots, built_body_is}
use Rattle.index_file.proofs.built.put_built_body.Goals as goal

pub put_parts-requires : goal.put_parts-requires
put_parts-requires c = subst (All HasPilots) (sym c.deref-2.ensures.value) (index_pilots _ c.built.invariant.valid)

pub returns-clause-ok : goal.returns-clause-ok
returns-clause-ok c =
    let kept = c.built.inside in
    let x : IndexData = record {
      seed = kept.seed;
      n = kept.n;
      shape = shape_data kept.shape;
      parts = kept.parts.items;
      mark = Some kept.mark;
    } in
    let mark : KeyMarkData = record { sum = c.mark.inside.sum; xor = c.mark.inside.xor } in
    built_body_is x mark c.args.enc c.args.out.now.items c.put_head.new.out.items c.put_numbers.new.out.items c.put_key_counts.new.out.items
    c.put_parts.new.out.items c.built_head.result c.deref.result.now c.deref-2.result.now (ap (λ m. marked x m) c.mark.view_is)
    c.in_ok-put_head.ensures.ok (c.built_head.ensures ∙ ap (λ y. fields_of y c.args.enc) (sym c.built.view_is)) c.in_ok-put_numbers.ensures.ok
    c.in_ok-put_key_counts.ensures.ok c.deref.ensures.value c.in_ok-put_parts.ensures.ok c.deref-2.ensures.value
    ∙ ap (λ y. c.args.out.now.items ++ body_text y c.args.enc) c.built.view_is

pub returns-clause-valid : goal.returns-clause-valid
returns-clause-valid c = subst IsValidIndex c.built.view_is c.built.invariant.valid
