use Rattle.std.specs.Prelude.{◌≡◌, ◌+◌, ◌<◌, true, length, Some, IfSome}
use Rattle.std.proofs.Common.{get_or, refl, sym, ap, subst, ◌∙◌, arith}
use Rattle.pthash.specs.Hash.{first_hash, second_hash}
use Rattle.build_outcome.specs.Values.{value_of}
use Rattle.key_check.specs.declared.checked.Checked.TheVariants.{Repeats}
use Rattle.key_check.specs.Walks.{is_line}
use Rattle.key_check.proofs.Walking.{value_of-pair, no_value_here, repeat_here, own_here, for_more, walked_more, same_inside, bit_is, set_bit, clear_bit}
use Rattle.key_check.proofs.walk.Walk.take_line.Goals as goal

pub returns-in-None-clause-below : goal.returns-in-None-clause-below
returns-in-None-clause-below c =
    let x = c.args.index.now.index in
    let h = c.hash_pair-pair.ensures in
    subst (λ o. IfSome o (λ v. v < x.n))
    (c.lookup_pair.ensures.value
    ∙ value_of-pair x c.args.line.now c.args.self.now.seed c.hash_pair-pair.result.a c.hash_pair-pair.result.b c.requires.seed h.a h.b)
    c.lookup_pair.ensures.below

pub returns-in-None-clause-fault : goal.returns-in-None-clause-fault
returns-in-None-clause-fault c before walked =
    let x = c.args.index.now.index in
    let h = c.hash_pair-pair.ensures in
    let value : c.lookup_pair.result ≡ value_of x c.args.line.now = c.lookup_pair.ensures.value
    ∙ value_of-pair x c.args.line.now c.args.self.now.seed c.hash_pair-pair.result.a c.hash_pair-pair.result.b c.requires.seed h.a h.b in
    no_value_here x before c.args.line.now c.args.self.now walked (sym value ∙ c.in-None.is)

pub returns-then-get-clause-below : goal.returns-then-get-clause-below
returns-then-get-clause-below c =
    let x = c.args.index.now.index in
    let h = c.hash_pair-pair.ensures in
    subst (λ o. IfSome o (λ v. v < x.n))
    (c.lookup_pair.ensures.value
    ∙ value_of-pair x c.args.line.now c.args.self.now.seed c.hash_pair-pair.result.a c.hash_pair-pair.result.b c.requires.seed h.a h.b)
    c.lookup_pair.ensures.below

pub returns-then-get-clause-fault : goal.returns-then-get-clause-fault
returns-then-get-clause-fault c before walked =
    let x = c.args.index.now.index in
    let numbers = c.args.self.now.numbers.items in
    let v = c.in-Some.value in
    let e = c.index.result.now in
    let h = c.hash_pair-pair.ensures in
    let value : c.lookup_pair.result ≡ value_of x c.args.line.now = c.lookup_pair.ensures.value
    ∙ value_of-pair x c.args.line.now c.args.self.now.seed c.hash_pair-pair.result.a c.hash_pair-pair.result.b c.requires.seed h.a h.b in
    let below : v < x.n = c.in-Some.ensures.below in
    let within : v < length numbers = omega (arith, c.requires.size) in
    let read : e ≡ get_or numbers v 0 = c.index.ensures ∙ same_inside numbers v e 0 within in
    let same : c.from-earlier.result ≡ e = c.from-earlier.ensures in
    let had : true ≡ is_line e = c.if-get.ensures ∙ bit_is x c.args.self.now v c.requires within ∙ ap is_line (sym read) in
    ap (λ n. Some (Repeats (c.args.self.now.lines + 1) n)) same
    ∙ repeat_here x before c.args.line.now c.args.self.now v e walked (sym value ∙ c.in-Some.is) within read (set_bit e had)

pub returns-clause-below : goal.returns-clause-below
returns-clause-below c =
    let x = c.args.index.now.index in
    let h = c.hash_pair-pair.ensures in
    subst (λ o. IfSome o (λ v. v < x.n))
    (c.lookup_pair.ensures.value
    ∙ value_of-pair x c.args.line.now c.args.self.now.seed c.hash_pair-pair.result.a c.hash_pair-pair.result.b c.requires.seed h.a h.b)
    c.lookup_pair.ensures.below

pub returns-clause-fits : goal.returns-clause-fits
returns-clause-fits c =
    let x = c.args.index.now.index in
    let numbers = c.args.self.now.numbers.items in
    let v = c.in-Some.value in
    let below : v < x.n = c.in-Some.ensures.below in
    let within : v < length numbers = omega (arith, c.requires.size) in
    let free : get_or numbers v 0 ≡ 0 = clear_bit (get_or numbers v 0) (c.if-get.ensures ∙ bit_is x c.args.self.now v c.requires within) in
    for_more x c.args.self.now _ v (c.args.self.now.lines + 1) c.requires c.lookup_pair.ensures.valid.few_keys within
    free refl refl c.set.ensures refl refl

pub returns-clause-fault : goal.returns-clause-fault
returns-clause-fault c before walked =
    let x = c.args.index.now.index in
    let numbers = c.args.self.now.numbers.items in
    let v = c.in-Some.value in
    let h = c.hash_pair-pair.ensures in
    let value : c.lookup_pair.result ≡ value_of x c.args.line.now = c.lookup_pair.ensures.value
    ∙ value_of-pair x c.args.line.now c.args.self.now.seed c.hash_pair-pair.result.a c.hash_pair-pair.result.b c.requires.seed h.a h.b in
    let below : v < x.n = c.in-Some.ensures.below in
    let within : v < length numbers = omega (arith, c.requires.size) in
    let free : get_or numbers v 0 ≡ 0 = clear_bit (get_or numbers v 0) (c.if-get.ensures ∙ bit_is x c.args.self.now v c.requires within) in
    own_here x before c.args.line.now c.args.self.now v walked (sym value ∙ c.in-Some.is) within free

pub returns-clause-walked : goal.returns-clause-walked
returns-clause-walked c before walked same =
    let x = c.args.index.now.index in
    let numbers = c.args.self.now.numbers.items in
    let v = c.in-Some.value in
    let h = c.hash_pair-pair.ensures in
    let value : c.lookup_pair.result ≡ value_of x c.args.line.now = c.lookup_pair.ensures.value
    ∙ value_of-pair x c.args.line.now c.args.self.now.seed c.hash_pair-pair.result.a c.hash_pair-pair.result.b c.requires.seed h.a h.b in
    let below : v < x.n = c.in-Some.ensures.below in
    let within : v < length numbers = omega (arith, c.requires.size) in
    let free : get_or numbers v 0 ≡ 0 = clear_bit (get_or numbers v 0) (c.if-get.ensures ∙ bit_is x c.args.self.now v c.requires within) in
    walked_more x before c.args.line.now c.args.self.now _ v (c.args.self.now.lines + 1) c.hash_pair-pair.result.a c.hash_pair-pair.result.b walked
    (sym value ∙ c.in-Some.is) within free refl
    (h.a ∙ ap (first_hash c.args.line.now) c.requires.seed) (h.b ∙ ap (second_hash c.args.line.now) c.requires.seed) refl refl c.more_marked-self.ensures
