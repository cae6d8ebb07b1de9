use Rattle.std.proofs.Common.{◌≡◌, ℕ, ◌<◌, ◌++◌, List, [], ◌∷◌, length, take, drop, sym, ap, ◌∙◌, append_assoc, arith}
use Rattle.std.specs.List.{flat_map}
use Rattle.pilot_codecs.specs.Spelling.{groups_for, groups_of}
use Rattle.pilot_codecs.proofs.GroupLemmas.{flat-groups_of, groups_of-more, groups_of-none}
use Rattle.std.proofs.Math.Nat.{min_comm}
use Rattle.std.proofs.lemmas.Bool.{eqb-true, eqb-false}
use Rattle.std.proofs.lemmas.List.{take_min, drop_min, length-drop, append-nil}
use Rattle.pilot_codecs.proofs.parted.Parted.encode.Goals as goal

pub loop-rest-preserved : goal.loop-rest-preserved
loop-rest-preserved c =
    let rest = c.loop-rest.rest.now in
    let lt : 0 < length rest = omega (arith, eqb-false (length rest) 0 (sym c.is_empty.ensures ∙ c.loop-rest-test.true)) in
    let front : c.split_at.result.0.now ≡ take 256 rest = c.split_at.ensures.front
    ∙ ap (λ (k : ℕ). take k rest) (c.min.ensures ∙ min_comm (length rest) 256)
    ∙ take_min 256 rest in
    let back : c.split_at.result.1.now ≡ drop 256 rest = c.split_at.ensures.back
    ∙ ap (λ (k : ℕ). drop k rest) (c.min.ensures ∙ min_comm (length rest) 256)
    ∙ drop_min 256 rest in
    record {
      so_far = rw (back, c.in_ok-push.ensures.ok, front)
          (append_assoc c.loop-rest.groups (take 256 rest ∷ []) (groups_of (groups_for (length (drop 256 rest))) (drop 256 rest))
          ∙ ap (λ (gs : List (List ℕ)). c.loop-rest.groups ++ gs) (sym (groups_of-more rest lt)) ∙ c.loop-rest.invariant.so_far);
      few = omega (arith, c.loop-rest.invariant.few, ap length back, length-drop 256 rest);
    }

pub invariant_of-result : goal.invariant_of-result
invariant_of-result c =
    let vs = c.args.values.now in
    let none : length c.loop-rest.rest.now ≡ 0 = eqb-true _ _ (sym c.is_empty.ensures ∙ c.loop-rest-test.false) in
    let all : c.shrink.new.self ≡ groups_of (groups_for (length vs)) vs = c.shrink.ensures ∙ sym (append-nil c.loop-rest.groups)
    ∙ ap (λ (gs : List (List ℕ)). c.loop-rest.groups ++ gs) (sym (groups_of-none c.loop-rest.rest.now none)) ∙ c.loop-rest.invariant.so_far in
    let same : flat_map (λ g. g) c.shrink.new.self ≡ vs = ap (λ (gs : List (List ℕ)). flat_map (λ g. g) gs) all
    ∙ flat-groups_of (groups_for (length vs)) vs (omega arith) in
    record { few = c.requires; count_is = ap length same; cut = ap (λ (xs : List ℕ). groups_of (groups_for (length vs)) xs) same ∙ sym all }

pub returns : goal.returns
returns c =
    let vs = c.args.values.now in
    let none : length c.loop-rest.rest.now ≡ 0 = eqb-true _ _ (sym c.is_empty.ensures ∙ c.loop-rest-test.false) in
    let all : c.shrink.new.self ≡ groups_of (groups_for (length vs)) vs = c.shrink.ensures ∙ sym (append-nil c.loop-rest.groups)
    ∙ ap (λ (gs : List (List ℕ)). c.loop-rest.groups ++ gs) (sym (groups_of-none c.loop-rest.rest.now none)) ∙ c.loop-rest.invariant.so_far in
    let same : flat_map (λ g. g) c.shrink.new.self ≡ vs = ap (λ (gs : List (List ℕ)). flat_map (λ g. g) gs) all
    ∙ flat-groups_of (groups_for (length vs)) vs (omega arith) in
    same
