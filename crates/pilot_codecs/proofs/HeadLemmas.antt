-- Groups whose words stand in one buffer, as more words are put behind them.
use Rattle.std.proofs.Common.{◌≡◌, ℕ, ◌+◌, ◌*◌, ◌-◌, ◌<◌, ◌≤◌, List, [], ◌∷◌, ◌++◌, length, map, get_or, take, drop}
use Rattle.std.proofs.Common.{refl, sym, ap, ◌∙◌, subst, inl, inr, arith}
use Rattle.std.specs.List.{flat_map}
use Rattle.std.proofs.lemmas.Bool.{cases_lt}
use Rattle.std.proofs.lemmas.List.{take-append-drop, take-append-le, drop-append-le, drop_at, take_all, take_rest, length-take, length-drop, map_push}
use Rattle.std.proofs.lemmas.List.{map_more, flat_map_more, get_or_past, get_or-map, length-map}
use Rattle.std.proofs.lemmas.List.Elements.{All-head, All-tail, All-push}
use Rattle.bit_vector.specs.Bits.{words_for}
use Rattle.pilot_codecs.specs.declared.groups.Head.{Head}
use Rattle.elias_fano.specs.Spelling.{number}
use Rattle.elias_fano.specs.Reading.{words_in}
use Rattle.pilot_codecs.specs.Spelling.{compact_text}
use Rattle.pilot_codecs.specs.Parts.{values_in, words_under, group_in, IsCompact, IsGroup, AreGroups}
use Rattle.pilot_codecs.proofs.CompactLemmas.{length-values_in, compact_text-values_in}

-- what was put behind others
pub appended : (old more new : List ℕ) → new ≡ old ++ more → drop (length old) new ≡ more
appended old more new e = ap (λ (xs : List ℕ). drop (length old) xs) e ∙ drop_at old more (length old) refl

-- what was put behind others is what stands from their end on
pub behind : (old more new : List ℕ) (start : ℕ) → new ≡ old ++ more → start ≡ length old → take (length new - start) (drop start new) ≡ more
behind old more new start e s = take_rest new start ∙ ap (λ (k : ℕ). drop k new) s ∙ appended old more new e

-- the words that bytes begin with were put behind the old ones, and are looked at
pub record IsRead (count w size : ℕ) (bytes old new read : List ℕ) : Type 0 where
  pub size_is : size ≡ words_for (count * w)
  pub read_is : read ≡ words_in size bytes
  pub new_is : drop (length old) new ≡ words_in size bytes

-- words that were read and put behind others are the new ones
pub words_read : (count w width size start : ℕ) (bytes old new seen : List ℕ) → width ≡ w → size ≡ words_for (count * width) →
    start ≡ length old →
    seen ≡ new → new ≡ old ++ words_in size bytes →
    IsRead count w size bytes old new (take (length seen - start) (drop start seen))
words_read count w width size start bytes old new seen same s at all e =
    record {
      size_is = s ∙ ap (λ (x : ℕ). words_for (count * x)) same;
      read_is = behind old (words_in size bytes) seen start (all ∙ e) at;
      new_is = appended old (words_in size bytes) new e;
    }

-- what keeps others in front is not shorter
longer : (old new : List ℕ) → take (length old) new ≡ old → length old ≤ length new
longer old new kept = omega (arith, ap length kept, length-take (length old) new)

-- the words of a group stay
words_under-kept : (old new : List ℕ) (head : Head) → take (length old) new ≡ old → IsGroup old head → words_under new head ≡ words_under old head
words_under-kept old new head kept h =
    let n = words_for (head.count * head.width) in
    let s = head.start in
    let more = drop (length old) new in
    let whole : new ≡ old ++ more = sym (take-append-drop (length old) new) ∙ ap (λ (xs : List ℕ). xs ++ more) kept in
    let in_old : s ≤ length old = omega (arith, h.within) in
    let room : n ≤ length (drop s old) = omega (arith, h.within, length-drop s old) in
    ap (λ (xs : List ℕ). take n (drop s xs)) whole ∙ ap (λ (xs : List ℕ). take n xs) (drop-append-le s old more in_old)
    ∙ take-append-le n (drop s old) more room

-- a group stays one as words are put behind
IsGroup-kept : (old new : List ℕ) (head : Head) → take (length old) new ≡ old → IsGroup old head → IsGroup new head
IsGroup-kept old new head kept h = record {
  within = omega (arith, h.within, longer old new kept);
  compact = subst (λ (ws : List ℕ). IsCompact head.count head.width ws) (sym (words_under-kept old new head kept h)) h.compact;
}

-- so do all groups
pub AreGroups-kept : (old new : List ℕ) (heads : List Head) → take (length old) new ≡ old → AreGroups old heads → AreGroups new heads
AreGroups-kept old new heads kept h k d lt = IsGroup-kept old new (get_or heads k d) kept (h k d lt)

-- and their values stay
pub groups-kept : (old new : List ℕ) (heads : List Head) → take (length old) new ≡ old → AreGroups old heads →
    map (group_in new) heads ≡ map (group_in old) heads
groups-kept old new [] kept h = refl
groups-kept old new (head ∷ heads) kept h =
    let first : group_in new head ≡ group_in old head =
    ap (λ (ws : List ℕ). values_in head.count head.width ws) (words_under-kept old new head kept (All-head (IsGroup old) head heads h)) in
    ap (λ (g : List ℕ). g ∷ map (group_in new) heads) first
    ∙ ap (λ (gs : List (List ℕ)). group_in old head ∷ gs) (groups-kept old new heads kept (All-tail (IsGroup old) head heads h))

-- a group whose words are those behind the old ones
pub record IsAdded (old new : List ℕ) (head : Head) : Type 0 where
  pub kept : take (length old) new ≡ old
  pub start : head.start ≡ length old
  pub compact : IsCompact head.count head.width (drop (length old) new)

-- the words of a group that was added are those behind the old ones
words_under-added : (old new : List ℕ) (head : Head) → IsAdded old new head → words_under new head ≡ drop (length old) new
words_under-added old new head a =
    let n = words_for (head.count * head.width) in
    ap (λ (s : ℕ). take n (drop s new)) a.start ∙ take_all n (drop (length old) new) (omega (arith, a.compact.packed_are.count))

-- a group that was added is one
IsGroup-added : (old new : List ℕ) (head : Head) → IsAdded old new head → IsGroup new head
IsGroup-added old new head a = record {
  within = omega (arith, a.start, a.compact.packed_are.count, length-drop (length old) new, longer old new a.kept);
  compact = subst (λ (ws : List ℕ). IsCompact head.count head.width ws) (sym (words_under-added old new head a)) a.compact;
}

-- with it all are groups
pub AreGroups-added : (old new : List ℕ) (heads more : List Head) (head : Head) → AreGroups old heads → IsAdded old new head →
    more ≡ heads ++ head ∷ [] →
    AreGroups new more
AreGroups-added old new heads more head h a e =
    subst (λ (hs : List Head). AreGroups new hs) (sym e)
    (All-push (IsGroup new) heads head (AreGroups-kept old new heads a.kept h) (IsGroup-added old new head a))

-- and its values stand behind those of the others
pub groups-added : (old new : List ℕ) (heads more : List Head) (head : Head) → AreGroups old heads → IsAdded old new head →
    more ≡ heads ++ head ∷ [] →
    map (group_in new) more ≡ map (group_in old) heads ++ values_in head.count head.width (drop (length old) new) ∷ []
groups-added old new heads more head h a e =
    ap (λ (hs : List Head). map (group_in new) hs) e ∙ map_push (group_in new) heads head
    ∙ ap (λ (gs : List (List ℕ)). gs ++ group_in new head ∷ []) (groups-kept old new heads a.kept h)
    ∙ ap (λ (ws : List ℕ). map (group_in old) heads ++ values_in head.count head.width ws ∷ []) (words_under-added old new head a)

-- a group that has a value is one of the groups
pub among_groups : (gs : List (List ℕ)) (g i : ℕ) → i < length (get_or gs g []) → g < length gs
among_groups gs g i lt =
    elim (cases_lt g (length gs)) [
      | inl within ↦ within
      | inr past ↦ absurd (omega (arith, lt, ap length (get_or_past gs g [] past)))
    ]

-- what is known of the head of a group that has a value
pub record HasValue (words : List ℕ) (heads : List Head) (g i : ℕ) (head : Head) : Type 0 where
  pub group : IsGroup words head
  pub values : get_or (map (group_in words) heads) g [] ≡ group_in words head
  pub inside : i < head.count

-- a group that has a value is one, and its head counts that value
pub has_value : (words : List ℕ) (heads : List Head) (g i : ℕ) (head : Head) → AreGroups words heads → head ≡ get_or heads g head →
    i < length (get_or (map (group_in words) heads) g []) → HasValue words heads g i head
has_value words heads g i head h e lt =
    let among : g < length heads = omega (arith, among_groups (map (group_in words) heads) g i lt, length-map heads (group_in words)) in
    let values : get_or (map (group_in words) heads) g [] ≡ group_in words head = get_or-map (group_in words) heads g head [] among
    ∙ ap (λ (x : Head). group_in words x) (sym e) in
    record {
      group = subst (λ (x : Head). IsGroup words x) (sym e) (h g head among);
      values = values;
      inside = omega (arith, lt, ap length values, length-values_in head.count head.width (words_under words head));
    }

-- the spellings of the groups so far, and of one more
pub texts-more : (words text : List ℕ) (heads : List Head) (i : ℕ) (head : Head) → AreGroups words heads → i < length heads →
    head ≡ get_or heads i head →
    text ≡ number head.width ++ flat_map number (words_under words head) →
    flat_map compact_text (map (group_in words) (take (i + 1) heads)) ≡ flat_map compact_text (map (group_in words) (take i heads)) ++ text
texts-more words text heads i head h lt e t =
    let groups = map (group_in words) (take i heads) in
    let here : IsGroup words head = subst (λ (x : Head). IsGroup words x) (sym e) (h i head lt) in
    let same : compact_text (group_in words head) ≡ text = compact_text-values_in head.count head.width (words_under words head) here.compact ∙ sym t in
    ap (λ (gs : List (List ℕ)). flat_map compact_text gs) (map_more (group_in words) heads i head lt
    ∙ ap (λ (x : Head). groups ++ group_in words x ∷ []) (sym e))
    ∙ sym (flat_map_more compact_text [] groups (group_in words head)) ∙ ap (λ (t : List ℕ). flat_map compact_text groups ++ t) same
