use Rattle.std.proofs.Common.{◌≡◌, ℕ, ◌*◌, ◌/◌, ◌%◌, ◌^◌, ◌<◌, ◌≤◌, List, [], length, map, get_or, sym, ap, ◌∙◌}
use Rattle.std.proofs.Common.{subst, arith}
use Rattle.std.proofs.lemmas.Nat.{mul-le}
use Rattle.bit_vector.specs.Bits.{words_number}
use Rattle.pilot_codecs.specs.Spelling.{greatest}
use Rattle.pilot_codecs.specs.Parts.{words_under, group_in}
use Rattle.pilot_codecs.proofs.FieldLemmas.{digits_of-le}
use Rattle.pilot_codecs.proofs.CompactLemmas.{value_at, value_within}
use Rattle.pilot_codecs.proofs.HeadLemmas.{has_value}
use Rattle.pilot_codecs.proofs.groups.Groups.get.Goals as goal

pub overflow_mul-place : goal.overflow_mul-place
overflow_mul-place c =
    let words = c.self.inside.words.items in
    let heads = c.self.inside.heads.items in
    let head = c.index-head.result.now in
    let in_group : c.args.i < length (get_or (map (group_in words) heads) c.args.group []) =
    subst (λ (gs : List (List ℕ)). c.args.i < length (get_or gs c.args.group [])) (sym c.self.view_is) c.requires in
    let h = has_value words heads c.args.group c.args.i head c.self.invariant c.index-head.ensures in_group in
    let narrow : head.width ≤ 64 = omega (arith, h.group.compact.wide, digits_of-le (greatest (group_in words head))) in
    let few : c.args.i ≤ 2 ^ 30 = omega (arith, h.inside, h.group.compact.few) in
    omega (arith, mul-le c.args.i c.from.result (2 ^ 30) 64 few (omega (arith, narrow, c.from.ensures)))

pub bits_at-requires-clause-wide : goal.bits_at-requires-clause-wide
bits_at-requires-clause-wide c =
    let words = c.self.inside.words.items in
    let heads = c.self.inside.heads.items in
    let head = c.index-head.result.now in
    let in_group : c.args.i < length (get_or (map (group_in words) heads) c.args.group []) =
    subst (λ (gs : List (List ℕ)). c.args.i < length (get_or gs c.args.group [])) (sym c.self.view_is) c.requires in
    let h = has_value words heads c.args.group c.args.i head c.self.invariant c.index-head.ensures in_group in
    omega (arith, h.group.compact.wide, digits_of-le (greatest (group_in words head)))

pub bits_at-requires-clause-within : goal.bits_at-requires-clause-within
bits_at-requires-clause-within c =
    let words = c.self.inside.words.items in
    let heads = c.self.inside.heads.items in
    let head = c.index-head.result.now in
    let in_group : c.args.i < length (get_or (map (group_in words) heads) c.args.group []) =
    subst (λ (gs : List (List ℕ)). c.args.i < length (get_or gs c.args.group [])) (sym c.self.view_is) c.requires in
    let h = has_value words heads c.args.group c.args.i head c.self.invariant c.index-head.ensures in_group in
    let place : c.args.i * c.from.result ≡ c.args.i * head.width = ap (λ (x : ℕ). c.args.i * x) c.from.ensures in
    let read : c.words_of.result.now ≡ words_under words head = c.words_of.ensures ∙ ap (λ (ws : List ℕ). words_under ws head) c.deref.ensures.value in
    omega (
      arith,
      ap length read,
      value_within head.count head.width c.args.i (c.args.i * c.from.result)
          (words_under words head) h.group.compact h.inside place,
    )

pub returns : goal.returns
returns c =
    let words = c.self.inside.words.items in
    let heads = c.self.inside.heads.items in
    let head = c.index-head.result.now in
    let in_group : c.args.i < length (get_or (map (group_in words) heads) c.args.group []) =
    subst (λ (gs : List (List ℕ)). c.args.i < length (get_or gs c.args.group [])) (sym c.self.view_is) c.requires in
    let h = has_value words heads c.args.group c.args.i head c.self.invariant c.index-head.ensures in_group in
    let place : c.args.i * c.from.result ≡ c.args.i * head.width = ap (λ (x : ℕ). c.args.i * x) c.from.ensures in
    let read : c.words_of.result.now ≡ words_under words head = c.words_of.ensures ∙ ap (λ (ws : List ℕ). words_under ws head) c.deref.ensures.value in
    c.bits_at.ensures ∙ ap (λ (ws : List ℕ). words_number ws / 2 ^ (c.args.i * c.from.result) % 2 ^ head.width) read
    ∙ value_at head.count head.width c.args.i (c.args.i * c.from.result) (words_under words head) h.inside place
    ∙ ap (λ (vs : List ℕ). get_or vs c.args.i 0) (sym h.values)
    ∙ ap (λ (gs : List (List ℕ)). get_or (get_or gs c.args.group []) c.args.i 0) c.self.view_is
