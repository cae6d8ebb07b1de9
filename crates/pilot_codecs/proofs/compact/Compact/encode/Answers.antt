use Rattle.std.proofs.Common.{◌≡◌, ℕ, List, length, drop, subst}
use Rattle.pilot_codecs.specs.Parts.{values_in, IsCompact}
use Rattle.pilot_codecs.proofs.compact.Compact.encode.Goals as goal

pub invariant_of-result : goal.invariant_of-result
invariant_of-result c =
    let ws = c.append_values.new.words.items in
    subst (λ (xs : List ℕ). IsCompact (length c.args.values.now) c.in_ok-width.width (drop (length xs) ws)) c.new-words.ensures.items
    c.in_ok-width.ensures.compact

pub returns : goal.returns
returns c =
    let ws = c.append_values.new.words.items in
    subst (λ (xs : List ℕ). values_in (length c.args.values.now) c.in_ok-width.width (drop (length xs) ws)
    ≡ c.args.values.now) c.new-words.ensures.items c.in_ok-width.ensures.values
