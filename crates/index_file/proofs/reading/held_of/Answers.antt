use Rattle.std.proofs.Common.{sym, ap, ◌∙◌, arith}
use Rattle.bucket_map.specs.ShapeData.{shape_data, IsShape-shape_data}
use Rattle.index_file.specs.Starts.{starts_from}
use Rattle.index_file.specs.Held.{parts_data}
use Rattle.index_file.proofs.Whole.{counts_are}
use Rattle.index_file.proofs.reading.held_of.Goals as goal

pub returns-clause-held : goal.returns-clause-held
returns-clause-held c =
    let shape = c.in_ok-shape.shape in
    let counts = c.in_ok-counts.counts.items in
    let same = counts_are c.args.body.now c.in_ok-enc.enc (shape_data shape) counts c.deref.result.now (parts_data c.in_ok-parts.parts.items)
    c.in_ok-counts.at c.in_ok-parts.at (λ i. omega (arith, c.type_inv.body i)) (IsShape-shape_data shape) c.deref.ensures.value c.in_ok-counts.ensures.small
    c.in_ok-parts.ensures.value in
    record { starts = c.in_ok-starts_of.ensures ∙ ap (starts_from 0) (c.deref-2.ensures.value ∙ sym same); under = c.in_ok-parts.ensures.under }
