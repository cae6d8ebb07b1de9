use Rattle.std.proofs.Common.{◌+◌, ◌≤◌, length, sym, arith}
use Rattle.std.specs.Prelude.{slice_index}
use Rattle.settings.specs.Settings.{settings_data}
use Rattle.hem_build.specs.Rules.{rules_of}
use Rattle.hem_build.proofs.Grouping.{stuck_there, built_more}
use Rattle.hem_build.proofs.groups.build_group.Goals as goal

pub returns-in-Err : goal.returns-in-Err
returns-in-Err g c =
    let rules = rules_of (settings_data c.args.settings.now) in
    let to = slice_index c.args.starts.now (c.args.group + 1) in
    let within : to ≤ length c.args.partitions.now = c.requires.bounds.within (c.args.group + 1) (omega (arith, c.requires.within)) in
    stuck_there rules c.args.seed (slice_index c.args.starts.now c.args.group) to c.loop-number.number c.in-Err.stuck.bucket c.args.partitions.now
    c.loop-number.built.items (omega arith) within
    (sym (rw c.in-Err.is at c.in_ok-part.ensures))
    c.loop-number.invariant

pub loop-number-preserved : goal.loop-number-preserved
loop-number-preserved g c =
    let rules = rules_of (settings_data c.args.settings.now) in
    let from = slice_index c.args.starts.now c.args.group in
    let to = slice_index c.args.starts.now (c.args.group + 1) in
    let within : to ≤ length c.args.partitions.now = c.requires.bounds.within (c.args.group + 1) (omega (arith, c.requires.within)) in
    rw c.in_ok-push-in-Ok.ensures.items
    (built_more rules c.args.seed from to c.loop-number.number c.args.partitions.now c.loop-number.built.items c.in-Ok.part (omega arith) within
    (sym (rw c.in-Ok.is at c.in_ok-part.ensures))
    c.loop-number.invariant)
