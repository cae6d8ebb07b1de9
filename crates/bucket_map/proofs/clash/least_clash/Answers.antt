use Rattle.std.proofs.lemmas.List.Sorted.{IsPermutation-sym}
use Rattle.std.proofs.lemmas.Option.{IfSome_then}
use Rattle.bucket_map.specs.Clash.{Clash, IsLeastClash}
use Rattle.bucket_map.proofs.Moved.{IsMovedFrom, moved, clash-moved, pairs-moved, ordinals-moved, least-moved}
use Rattle.bucket_map.proofs.clash.least_clash.Goals as goal

sorted : (c : goal.After-least_repeat) → IsMovedFrom c.args.records.now c.sort_records.new.records
sorted c = moved c.args.records.now c.sort_records.new.records c.sort_records.ensures.permutation

back : (c : goal.After-least_repeat) → IsMovedFrom c.sort_records.new.records c.args.records.now
back c =
    moved c.sort_records.new.records c.args.records.now
    (IsPermutation-sym c.args.records.now c.sort_records.new.records c.sort_records.ensures.permutation)

pub returns-clause-none : goal.returns-clause-none
returns-clause-none c =
    let old = c.args.records.now in
    let new = c.sort_records.new.records in (
      λ none. pairs-moved new old (back c) (c.least_repeat.ensures.none.0 none),
      λ differ. c.least_repeat.ensures.none.1 (pairs-moved old new (sorted c) differ),
    )

pub returns-clause-clash : goal.returns-clause-clash
returns-clause-clash c =
    let old = c.args.records.now in
    let new = c.sort_records.new.records in
    IfSome_then c.least_repeat.result {P = λ f. Clash new f.0 f.1} {Q = λ f. Clash old f.0 f.1} c.least_repeat.ensures.clash
    (λ f h. clash-moved old new (sorted c) f.0 f.1 h)

pub returns-clause-least : goal.returns-clause-least
returns-clause-least c =
    let old = c.args.records.now in
    let new = c.sort_records.new.records in
    λ distinct.
    IfSome_then c.least_repeat.result {P = λ f. IsLeastClash new f.0 f.1} {Q = λ f. IsLeastClash old f.0 f.1}
    (c.least_repeat.ensures.least (ordinals-moved old new (sorted c) distinct))
    (λ f h. least-moved old new (sorted c) (back c) f.0 f.1 h)
