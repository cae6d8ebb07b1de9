use Rattle.std.proofs.Common.{arith, rules, ◌∙◌, ap, ◌++◌, ◌+◌, ◌≡◌, ℕ, List, length, take, vec_len}
use Rattle.std.proofs.lemmas.List.{length-take}
use Rattle.pth_outside.specs.FilesLaws.{ReadsFiles-ok, ReadsFiles-then}
use Rattle.pth_outside.proofs.Pieces.{whole_at_end, IsFront-more, front_of}
use Rattle.pth_outside.proofs.whole.read_whole.Goals as goal

pub returns-then-count-eq0-clause-ok : goal.returns-then-count-eq0-clause-ok
returns-then-count-eq0-clause-ok g c =
    let kept = c.loop-count.invariant in
    whole_at_end (g.F.Files.state c.args.files.now).told (g.F.Files.state c.loop-count.files).told c.args.name.now
    c.loop-count.bytes.items c.as_mut_slice.result.now c.read_at.new.into c.len.result c.in-Ok.count
    kept.1 kept.0.told (search rules) (search rules) (search rules) c.in-Ok.ensures.there c.in-Ok.ensures.read

pub loop-count-preserved : goal.loop-count-preserved
loop-count-preserved g c =
    let kept = c.loop-count.invariant in
    let count = c.in-Ok.count in
    let lent = c.deref.result.now in
    let front : take count lent ≡ take count c.read_at.new.into =
    front_of count c.loop-count.piece.len lent c.read_at.new.into _ c.deref.ensures.value (search rules) (search rules) in
    let all : c.extend_from_slice.new.self.items ≡ c.loop-count.bytes.items ++ take count c.read_at.new.into =
    c.in_ok-extend_from_slice.ensures.items ∙ ap (λ (x : List ℕ). c.loop-count.bytes.items ++ x) front in
    let more : vec_len c.extend_from_slice.new.self ≡ vec_len c.loop-count.bytes + length (take count lent) =
    c.in_ok-extend_from_slice.ensures.len in (
      ReadsFiles-then (λ o. ⊥) _ _ _ kept.0 (ReadsFiles-ok _ _ (λ e. absurd e) c.in-Ok.ensures.leaves),
      IsFront-more (g.F.Files.state c.args.files.now).told (g.F.Files.state c.loop-count.files).told c.args.name.now
          c.loop-count.bytes.items c.as_mut_slice.result.now c.read_at.new.into c.extend_from_slice.new.self.items
          c.len.result count kept.1 kept.0.told (search rules) (search rules) all c.in-Ok.ensures.read,
      omega (arith, more, length-take count lent),
      kept.3,
    )
