use Rattle.std.proofs.Common.{arith}
use Rattle.bit_vector.proofs.PackLemmas.{appended_whole, appended_within, appended_across}
use Rattle.bit_vector.proofs.words.append.Goals as goal

pub returns-then-shift-eq0-clause-ok : goal.returns-then-shift-eq0-clause-ok
returns-then-shift-eq0-clause-ok c =
    let a = appended_whole c.args.words.now.items _ c.args.len c.args.value c.args.width c.requires.packed c.if-shift-eq0.true c.requires.some
    c.requires.wide c.requires.fits (omega arith) c.in_ok-push.ensures.items in
    a.number

pub returns-then-shift-eq0-clause-packed : goal.returns-then-shift-eq0-clause-packed
returns-then-shift-eq0-clause-packed c =
    let a = appended_whole c.args.words.now.items _ c.args.len c.args.value c.args.width c.requires.packed c.if-shift-eq0.true c.requires.some
    c.requires.wide c.requires.fits (omega arith) c.in_ok-push.ensures.items in
    a.packed

pub returns-then-shift-width-le64-clause-ok : goal.returns-then-shift-width-le64-clause-ok
returns-then-shift-width-le64-clause-ok c =
    let a = appended_within c.args.words.now.items c.args.len c.args.value c.args.width c.index_mut.result.now c.requires.packed
    (omega arith) c.if-shift-width-le64.true c.requires.fits c.index_mut.ensures.value in
    a.number

pub returns-then-shift-width-le64-clause-packed : goal.returns-then-shift-width-le64-clause-packed
returns-then-shift-width-le64-clause-packed c =
    let a = appended_within c.args.words.now.items c.args.len c.args.value c.args.width c.index_mut.result.now c.requires.packed
    (omega arith) c.if-shift-width-le64.true c.requires.fits c.index_mut.ensures.value in
    a.packed

pub returns-clause-ok : goal.returns-clause-ok
returns-clause-ok c =
    let a = appended_across c.args.words.now.items _ c.args.len c.args.value c.args.width c.index_mut-2.result.now c.requires.packed
    (omega arith) c.if-shift-width-le64.false c.requires.wide c.requires.fits (omega arith) c.in_ok-push-2.ensures.items c.index_mut-2.ensures.value in
    a.number

pub returns-clause-packed : goal.returns-clause-packed
returns-clause-packed c =
    let a = appended_across c.args.words.now.items _ c.args.len c.args.value c.args.width c.index_mut-2.result.now c.requires.packed
    (omega arith) c.if-shift-width-le64.false c.requires.wide c.requires.fits (omega arith) c.in_ok-push-2.ensures.items c.index_mut-2.ensures.value in
    a.packed
