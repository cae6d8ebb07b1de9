use Rattle.std.proofs.Common.{◌≡◌, ℕ, ◌+◌, ◌<◌, ◌++◌, List, length, map, get_or, drop, sym, ap, ◌∙◌, arith}
use Rattle.std.specs.List.{flat_map}
use Rattle.std.proofs.lemmas.List.{drop_more}
use Rattle.elias_fano.specs.Values.{below_len}
use Rattle.elias_fano.proofs.CallerLemmas.{below_len-most}
use Rattle.pilot_codecs.specs.declared.groups.Head.{Head}
use Rattle.pilot_codecs.specs.Parts.{values_in, words_under, group_in}
use Rattle.pilot_codecs.proofs.CompactLemmas.{length-values_in}
use Rattle.pilot_codecs.proofs.BelowLemmas.{below_passed, below_stopped, below_room}
use Rattle.pilot_codecs.proofs.groups.Groups.below.Goals as goal

pub overflow_add-passed : goal.overflow_add-passed
overflow_add-passed c =
    let words = c.self.inside.words.items in
    let heads = c.self.inside.heads.items in
    let i = c.loop-head.head-index in
    let none : Head = record { count = 0; width = 0; start = 0 } in
    let head = get_or c.deref-head-items.result.now i none in
    let bound = c.args.bound in
    let lt : i < length heads = omega (arith, ap length c.deref-head-items.ensures.value, c.loop-head-test.true) in
    let head_is : get_or heads i none ≡ head = ap (λ (hs : List Head). get_or hs i none) (sym c.deref-head-items.ensures.value) in
    let group = group_in words head in
    let rest = flat_map (λ g. g) (map (group_in words) (drop (i + 1) heads)) in
    let whole = below_len bound (flat_map (λ g. g) (map (group_in words) heads)) in
    let cut : flat_map (λ g. g) (map (group_in words) (drop i heads)) ≡ group ++ rest =
    ap (λ (hs : List Head). flat_map (λ g. g) (map (group_in words) hs)) (drop_more heads i none lt)
    ∙ ap (λ (h : Head). group_in words h ++ rest) head_is in
    let so_far : c.loop-head.passed + below_len bound (group ++ rest) ≡ whole = ap (λ (vs : List ℕ). c.loop-head.passed + below_len bound vs) (sym cut)
    ∙ c.loop-head.invariant in
    let below : c.below_in-below.result ≡ below_len bound group = c.below_in-below.ensures
    ∙ ap (λ (ws : List ℕ). below_len bound (values_in c.from-count.result head.width ws)) (c.words_of.ensures
    ∙ ap (λ (ws : List ℕ). words_under ws head) c.deref.ensures.value)
    ∙ ap (λ (k : ℕ). below_len bound (values_in k head.width (words_under words head))) c.from-count.ensures in
    let size : length group ≡ head.count = length-values_in head.count head.width (words_under words head) in
    let all = ap (λ (gs : List (List ℕ)). length (flat_map (λ g. g) gs)) c.self.view_is in
    omega (
      arith,
      below,
      below_room bound c.loop-head.passed whole group rest so_far,
      below_len-most bound (flat_map (λ g. g) (map (group_in words) heads)),
      all,
      c.requires,
    )

pub returns-then-below-count : goal.returns-then-below-count
returns-then-below-count c =
    let words = c.self.inside.words.items in
    let heads = c.self.inside.heads.items in
    let i = c.loop-head.head-index in
    let none : Head = record { count = 0; width = 0; start = 0 } in
    let head = get_or c.deref-head-items.result.now i none in
    let bound = c.args.bound in
    let lt : i < length heads = omega (arith, ap length c.deref-head-items.ensures.value, c.loop-head-test.true) in
    let head_is : get_or heads i none ≡ head = ap (λ (hs : List Head). get_or hs i none) (sym c.deref-head-items.ensures.value) in
    let group = group_in words head in
    let rest = flat_map (λ g. g) (map (group_in words) (drop (i + 1) heads)) in
    let whole = below_len bound (flat_map (λ g. g) (map (group_in words) heads)) in
    let cut : flat_map (λ g. g) (map (group_in words) (drop i heads)) ≡ group ++ rest =
    ap (λ (hs : List Head). flat_map (λ g. g) (map (group_in words) hs)) (drop_more heads i none lt)
    ∙ ap (λ (h : Head). group_in words h ++ rest) head_is in
    let so_far : c.loop-head.passed + below_len bound (group ++ rest) ≡ whole = ap (λ (vs : List ℕ). c.loop-head.passed + below_len bound vs) (sym cut)
    ∙ c.loop-head.invariant in
    let below : c.below_in-below.result ≡ below_len bound group = c.below_in-below.ensures
    ∙ ap (λ (ws : List ℕ). below_len bound (values_in c.from-count.result head.width ws)) (c.words_of.ensures
    ∙ ap (λ (ws : List ℕ). words_under ws head) c.deref.ensures.value)
    ∙ ap (λ (k : ℕ). below_len bound (values_in k head.width (words_under words head))) c.from-count.ensures in
    let size : length group ≡ head.count = length-values_in head.count head.width (words_under words head) in
    let less : below_len bound group < length group = omega (arith, below, size, c.from-count.ensures, c.if-below-count.true) in
    omega (arith, below, below_stopped bound c.loop-head.passed whole group rest so_far less)
    ∙ ap (λ (gs : List (List ℕ)). below_len bound (flat_map (λ g. g) gs)) c.self.view_is

pub loop-head-preserved : goal.loop-head-preserved
loop-head-preserved c =
    let words = c.self.inside.words.items in
    let heads = c.self.inside.heads.items in
    let i = c.loop-head.head-index in
    let none : Head = record { count = 0; width = 0; start = 0 } in
    let head = get_or c.deref-head-items.result.now i none in
    let bound = c.args.bound in
    let lt : i < length heads = omega (arith, ap length c.deref-head-items.ensures.value, c.loop-head-test.true) in
    let head_is : get_or heads i none ≡ head = ap (λ (hs : List Head). get_or hs i none) (sym c.deref-head-items.ensures.value) in
    let group = group_in words head in
    let rest = flat_map (λ g. g) (map (group_in words) (drop (i + 1) heads)) in
    let whole = below_len bound (flat_map (λ g. g) (map (group_in words) heads)) in
    let cut : flat_map (λ g. g) (map (group_in words) (drop i heads)) ≡ group ++ rest =
    ap (λ (hs : List Head). flat_map (λ g. g) (map (group_in words) hs)) (drop_more heads i none lt)
    ∙ ap (λ (h : Head). group_in words h ++ rest) head_is in
    let so_far : c.loop-head.passed + below_len bound (group ++ rest) ≡ whole = ap (λ (vs : List ℕ). c.loop-head.passed + below_len bound vs) (sym cut)
    ∙ c.loop-head.invariant in
    let below : c.below_in-below.result ≡ below_len bound group = c.below_in-below.ensures
    ∙ ap (λ (ws : List ℕ). below_len bound (values_in c.from-count.result head.width ws)) (c.words_of.ensures
    ∙ ap (λ (ws : List ℕ). words_under ws head) c.deref.ensures.value)
    ∙ ap (λ (k : ℕ). below_len bound (values_in k head.width (words_under words head))) c.from-count.ensures in
    let size : length group ≡ head.count = length-values_in head.count head.width (words_under words head) in
    omega (
      arith,
      below,
      below_passed bound c.loop-head.passed whole group rest so_far (omega (arith, below, size, c.from-count.ensures, c.if-below-count.false)),
    )
