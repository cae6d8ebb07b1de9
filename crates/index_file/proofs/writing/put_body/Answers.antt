use Rattle.std.proofs.Common.{◌++◌, ap, ◌∙◌}
use Rattle.build_outcome.specs.Index.{KeyMarkData}
use Rattle.index_text.specs.Text.{body_text}
use Rattle.index_file.specs.Encoded.{marked}
use Rattle.index_file.specs.Held.{held_data}
use Rattle.index_file.proofs.Written.{body_is}
use Rattle.index_file.proofs.writing.put_body.Goals as goal

pub returns-clause-ok : goal.returns-clause-ok
returns-clause-ok c =
    let mark : KeyMarkData = record { sum = c.mark.inside.sum; xor = c.mark.inside.xor } in
    body_is c.args.held.now mark c.args.out.now.items c.put_head.new.out.items c.put_numbers.new.out.items c.put_counts.new.out.items
    c.put_partitions.new.out.items c.fields_of.result c.deref.result.now c.deref-2.result.now c.requires c.in_ok-put_head.ensures.ok (c.fields_of.ensures mark)
    c.in_ok-put_numbers.ensures.ok c.in_ok-put_counts.ensures.ok c.deref.ensures.value c.in_ok-put_partitions.ensures.ok c.deref-2.ensures.value
    ∙ ap (λ m. c.args.out.now.items ++ body_text (marked (held_data c.args.held.now) m) c.args.held.now.enc) c.mark.view_is

pub returns-clause-fits : goal.returns-clause-fits
returns-clause-fits c = rw (← c.mark.view_is) c.mark.invariant
