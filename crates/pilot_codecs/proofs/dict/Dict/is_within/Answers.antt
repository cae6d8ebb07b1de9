use Rattle.std.proofs.Common.{◌≡◌, ◌-◌, ◌<◌, ℕ, List, length, get_or, ap, subst, arith}
use Rattle.std.proofs.lemmas.Bool.{ltb-true}
use Rattle.std.proofs.lemmas.List.{get_or_read}
use Rattle.elias_fano.specs.Values.{below_len}
use Rattle.pilot_codecs.proofs.BelowLemmas.{dict_within}
use Rattle.pilot_codecs.proofs.dict.Dict.is_within.Goals as goal

pub returns-then-size-eq0 : goal.returns-then-size-eq0
returns-then-size-eq0 c = λ t. subst (λ (vs : List ℕ). below_len c.args.bound vs ≡ length vs) c.self.view_is
    (dict_within c.args.bound c.self.inside.entries.items c.self.inside.places c.self.invariant (λ some.
    absurd (omega (arith, some, c.len-size.ensures, c.self.inside.entries.ok.0, c.if-size-eq0.true))))

pub returns : goal.returns
returns c = λ t.
    let ds = c.self.inside.entries.items in
    let less = ltb-true _ _ t in
    let size : c.len-size.result ≡ length ds = omega (arith, c.len-size.ensures, c.self.inside.entries.ok.0) in
    let read = λ (some : 0 < length ds). get_or_read ds (c.len-size.result - 1) c.index.result.now (omega (arith, size, some)) c.index.ensures 0 in
    let at = ap (λ (k : ℕ). get_or ds (k - 1) 0) size in
    subst (λ (vs : List ℕ). below_len c.args.bound vs ≡ length vs) c.self.view_is
    (dict_within c.args.bound ds c.self.inside.places c.self.invariant (λ some. omega (arith, less, read some, at)))
