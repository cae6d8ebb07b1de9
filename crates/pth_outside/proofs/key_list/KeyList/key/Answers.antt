use Rattle.std.proofs.Common.{◌<◌, ◌-◌, ◌∙◌, ap, sym, length, take, drop, Some, arith, ℕ, List}
use Rattle.std.specs.Prelude.{slice_get}
use Rattle.pth_outside.proofs.KeyBytesLemmas.{key_read, within_ends, short_key}
use Rattle.pth_outside.proofs.key_list.KeyList.key.Goals as goal

pub begin_of-start-requires : goal.begin_of-start-requires
begin_of-start-requires c =
    let within : c.args.i < length c.self.inside.ends.items = within_ends c.self.inside.ends.items
    c.self.inside.bytes.items c.args.self.now c.args.i c.self.view_is c.requires in
    rw c.deref.ensures.value within

pub index-end-requires : goal.index-end-requires
index-end-requires c =
    let within : c.args.i < length c.self.inside.ends.items = within_ends c.self.inside.ends.items
    c.self.inside.bytes.items c.args.self.now c.args.i c.self.view_is c.requires in
    omega (arith, c.self.inside.ends.ok.0)

pub slice_bounds-result-count : goal.slice_bounds-result-count
slice_bounds-result-count c =
    let at = key_read c.self.inside.ends.items c.self.inside.bytes.items c.deref.result.now c.args.self.now c.args.i
    c.begin_of-start.result c.index-end.result.now _ c.self.view_is c.self.invariant c.requires c.deref.ensures.value
    c.begin_of-start.ensures c.index-end.ensures in
    omega (arith, at.rises, at.within, c.deref-2.ensures.len, c.self.inside.bytes.ok.0)

pub slice_bounds-result-start : goal.slice_bounds-result-start
slice_bounds-result-start c =
    let at = key_read c.self.inside.ends.items c.self.inside.bytes.items c.deref.result.now c.args.self.now c.args.i
    c.begin_of-start.result c.index-end.result.now _ c.self.view_is c.self.invariant c.requires c.deref.ensures.value
    c.begin_of-start.ensures c.index-end.ensures in
    omega (arith, at.rises, at.within, c.deref-2.ensures.len, c.self.inside.bytes.ok.0)

pub slice_bounds-result-end : goal.slice_bounds-result-end
slice_bounds-result-end c =
    let at = key_read c.self.inside.ends.items c.self.inside.bytes.items c.deref.result.now c.args.self.now c.args.i
    c.begin_of-start.result c.index-end.result.now _ c.self.view_is c.self.invariant c.requires c.deref.ensures.value
    c.begin_of-start.ensures c.index-end.ensures in
    omega (arith, at.rises, at.within, c.deref-2.ensures.len, c.self.inside.bytes.ok.0)

pub returns-clause-key : goal.returns-clause-key
returns-clause-key c =
    let at = key_read c.self.inside.ends.items c.self.inside.bytes.items c.deref.result.now c.args.self.now c.args.i
    c.begin_of-start.result c.index-end.result.now _ c.self.view_is c.self.invariant c.requires c.deref.ensures.value
    c.begin_of-start.ensures c.index-end.ensures in
    let piece = λ (bytes : List ℕ). take (c.index-end.result.now - c.begin_of-start.result) (drop c.begin_of-start.result bytes) in
    ap (λ keys. slice_get keys c.args.i) (sym c.self.view_is) ∙ at.is
    ∙ ap (λ (bytes : List ℕ). Some (piece bytes)) (sym c.deref-2.ensures.value)

pub returns-clause-short : goal.returns-clause-short
returns-clause-short c =
    let at = key_read c.self.inside.ends.items c.self.inside.bytes.items c.deref.result.now c.args.self.now c.args.i
    c.begin_of-start.result c.index-end.result.now _ c.self.view_is c.self.invariant c.requires c.deref.ensures.value
    c.begin_of-start.ensures c.index-end.ensures in
    short_key c.deref-2.result.now _ _ at.short
