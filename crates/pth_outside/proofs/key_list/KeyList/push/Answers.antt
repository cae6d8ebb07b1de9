use Rattle.std.proofs.Common.{ap, ◌∙◌, ◌++◌, ◌∷◌, [], List, ℕ, arith}
use Rattle.pth_outside.proofs.KeyBytesLemmas.{AreEnds-pushed, cut_at-pushed}
use Rattle.pth_outside.proofs.key_list.KeyList.push.Goals as goal

pub invariant_of-self-in-Ok : goal.invariant_of-self-in-Ok
invariant_of-self-in-Ok c =
    AreEnds-pushed c.self.inside.ends.items _ c.self.inside.bytes.items _ c.args.key.now c.len-end.result c.self.invariant c.requires
    c.in_ok-extend_from_slice.ensures.items (omega (arith, c.len-end.ensures, c.extend_from_slice.new.self.ok.0)) c.in-Ok.ensures.items

pub returns-in-Ok-clause-ok : goal.returns-in-Ok-clause-ok
returns-in-Ok-clause-ok c =
    cut_at-pushed c.self.inside.ends.items _ c.self.inside.bytes.items _ c.args.key.now c.len-end.result c.self.invariant
    c.in_ok-extend_from_slice.ensures.items (omega (arith, c.len-end.ensures, c.extend_from_slice.new.self.ok.0)) c.in-Ok.ensures.items
    ∙ ap (λ (keys : List (List ℕ)). keys ++ c.args.key.now ∷ []) c.self.view_is
