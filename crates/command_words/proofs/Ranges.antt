-- What words give is in its range.
use Rattle.std.proofs.Common.{◌≡◌, ℕ, suc, ◌+◌, ◌≤◌, List, [], ◌∷◌, length, true, false, cond, ◌&&◌, Option, Some, None, Result, Ok}
use Rattle.std.proofs.Common.{Err, refl, sym, ap, subst, ◌∙◌, arith}
use Rattle.std.specs.Prelude.{◌==◌, nat_le, option_map, option_and_then, unwrap_or}
use Rattle.std.specs.List.{slice_split}
use Rattle.std.proofs.lemmas.Bool.Decides.{nat_tests}
use Rattle.std.proofs.lemmas.List.Splits.{length-slice_split}
use Rattle.pthash.specs.declared.TheConstants.{MIN_ALPHA, MAX_ALPHA, MIN_C, MAX_C, MAX_KEYS, MAX_PARTITIONS, MAX_PILOTS}
use Rattle.settings.specs.declared.settings.TheConstants as limits
use Rattle.settings.specs.Workers.{workers_of}
use Rattle.command_words.specs.declared.kinds.TheConstants.{RANGE}
use Rattle.command_words.specs.declared.number.TheConstants.{COMMA}
use Rattle.command_words.specs.declared.chosen.TheConstants.{EQUALS, DEFAULT_SEARCH}
use Rattle.command_words.specs.declared.chosen.Setting.{Setting}
use Rattle.command_words.specs.declared.chosen.Setting.TheVariants as setting
use Rattle.command_words.specs.declared.values.Search as search
use Rattle.command_words.specs.declared.values.Search.TheVariants.{Turns, Rounds}
use Rattle.command_words.specs.Options.{IsInRange}
use Rattle.command_words.specs.Settings.{Given, nothing_given, put, setting_of, with_value, with_named, with_parts, with_word, how_of, options_of}
use Rattle.command_words.specs.Values.{number_of, number_in, between, numbers_of, few_seeds, seeds_in, cut_at}
use Rattle.command_words.specs.Words.{given_by, after_word}

-- a value that is put
put-ok : {A : Type 0} (slot : Option A) (value : Result A ℕ) (with_it : Option A → Given) (next : Given) →
    put slot value with_it ≡ Ok next → (v : A) × (value ≡ Ok v) × (with_it (Some v) ≡ next)
put-ok (Some x) value with_it next is = cc
put-ok None (Err kind) with_it next is = cc
put-ok None (Ok v) with_it next is = (v, refl, cc)

-- a number in its range
between-ok : (low high n : ℕ) (r : Option ℕ) → between low high r ≡ Ok n → (low ≤ n) × (n ≤ high)
between-ok low high n None is = cc
between-ok low high n (Some m) is =
    elim (nat_le low m) as (λ b. nat_le low m ≡ b → cond (b && nat_le m high) (Ok m) (Err RANGE) ≡ Ok n → (low ≤ n) × (n ≤ high)) [
      | true ↦ λ above. elim (nat_le m high) as (λ b. nat_le m high ≡ b → cond b (Ok m) (Err RANGE) ≡ Ok n → (low ≤ n) × (n ≤ high)) [
        | true ↦ λ below e. let same : m ≡ n = cc in
            (grind (arith, nat_tests), grind (arith, nat_tests))
        | false ↦ λ below e. cc
      ] refl
      | false ↦ λ above e. cc
    ] refl is

-- a number that is taken is in its range
number_in-ok : (low high n : ℕ) (text : List ℕ) → number_in low high text ≡ Ok n → (low ≤ n) × (n ≤ high)
unfolding number_in
number_in-ok low high n text is = between-ok low high n (number_of text) is

-- as many numbers as texts
length-numbers_of : (texts : List (List ℕ)) (ns : List ℕ) → numbers_of texts ≡ Some ns → length ns ≡ length texts
unfolding numbers_of
length-numbers_of [] ns is = let same : ns ≡ [] = cc in ap length same
length-numbers_of (text ∷ texts) ns is =
    elim (number_of text) as (λ r. option_and_then (λ n. option_map (λ ns. n ∷ ns) (numbers_of texts)) r ≡ Some ns → length ns ≡ suc (length texts)) [
      | Some n ↦ elim (numbers_of texts) as (λ r. numbers_of texts ≡ r → option_map (λ ns. n ∷ ns) r ≡ Some ns → length ns ≡ suc (length texts)) [
        | Some ms ↦ λ rest e. let same : n ∷ ms ≡ ns = cc in
            ap length (sym same) ∙ ap suc (length-numbers_of texts ms rest)
        | None ↦ λ rest e. cc
      ] refl
      | None ↦ λ e. cc
    ] is

-- seeds that are taken are few
few_seeds-ok : (r : Option (List ℕ)) (seeds : List ℕ) → few_seeds r ≡ Ok seeds →
    (r ≡ Some seeds) × (length seeds ≤ limits.MAX_SEEDS)
few_seeds-ok None seeds is = cc
few_seeds-ok (Some ns) seeds is =
    elim (nat_le (length ns) limits.MAX_SEEDS) as (λ b. nat_le (length ns) limits.MAX_SEEDS ≡ b →
    cond b (Ok ns) (Err RANGE) ≡ Ok seeds → (Some ns ≡ Some seeds) × (length seeds ≤ limits.MAX_SEEDS)) [
      | true ↦ λ few e. let same : ns ≡ seeds = cc in (ap Some same, subst (λ s. length s ≤ limits.MAX_SEEDS) same (grind (arith, nat_tests)))
      | false ↦ λ few e. cc
    ] refl is

-- seeds that a text lists are some and few
seeds_in-ok : (text seeds : List ℕ) → seeds_in text ≡ Ok seeds → (1 ≤ length seeds) × (length seeds ≤ limits.MAX_SEEDS)
unfolding seeds_in
seeds_in-ok text seeds is =
    let few = few_seeds-ok (numbers_of (slice_split (λ b. b == COMMA) text)) seeds is in
    let all = length-numbers_of (slice_split (λ b. b == COMMA) text) seeds few.0 in
    let pieces = length-slice_split (λ b. b == COMMA) text in
    (omega arith, few.1)

-- the number of workers, in either way
workers_of-how_of : (way : search.Search) (workers : ℕ) → workers_of (how_of way workers) ≡ workers
workers_of-how_of Turns workers = refl
workers_of-how_of Rounds workers = refl

-- the number of workers stays in its range in another way
IsInRange-workers : (way other : search.Search) (workers : ℕ) (P : ℕ → Type 0) →
    P (workers_of (how_of way workers)) → P (workers_of (how_of other workers))
IsInRange-workers way other workers P h =
    subst P (workers_of-how_of way workers ∙ sym (workers_of-how_of other workers)) h

-- one more value stays in range
with_value-in_range : (s : Setting) (text : List ℕ) (g next : Given) → IsInRange (options_of g) →
    with_value s text g ≡ Ok next → IsInRange (options_of next)
with_value-in_range setting.Seeds text g next h is =
    let p = put-ok g.seeds (seeds_in text) _ next is in
    let r = seeds_in-ok text p.0 p.1 in
    subst (λ g. IsInRange (options_of g)) p.2 (assumption (h, r))
with_value-in_range setting.Alpha text g next h is =
    let p = put-ok g.alpha (number_in MIN_ALPHA MAX_ALPHA text) _ next is in
    let r = number_in-ok MIN_ALPHA MAX_ALPHA p.0 text p.1 in
    subst (λ g. IsInRange (options_of g)) p.2 (assumption (h, r))
with_value-in_range setting.C text g next h is =
    let p = put-ok g.c (number_in MIN_C MAX_C text) _ next is in
    let r = number_in-ok MIN_C MAX_C p.0 text p.1 in
    subst (λ g. IsInRange (options_of g)) p.2 (assumption (h, r))
with_value-in_range setting.Map text g next h is =
    let p = put-ok g.map _ _ next is in
    subst (λ g. IsInRange (options_of g)) p.2 (assumption h)
with_value-in_range setting.Parts text g next h is =
    let p = put-ok g.parts (number_in 1 MAX_PARTITIONS text) _ next is in
    let r = number_in-ok 1 MAX_PARTITIONS p.0 text p.1 in
    subst (λ g. IsInRange (options_of g)) p.2 (assumption (h, r))
with_value-in_range setting.Workers text g next h is =
    let p = put-ok g.workers (number_in 1 limits.MAX_WORKERS text) _ next is in
    let r = number_in-ok 1 limits.MAX_WORKERS p.0 text p.1 in
    let same = sym (workers_of-how_of (unwrap_or g.search DEFAULT_SEARCH) p.0) in
    let low = subst (λ n. 1 ≤ n) same r.0 in
    let high = subst (λ n. n ≤ limits.MAX_WORKERS) same r.1 in
    subst (λ g. IsInRange (options_of g)) p.2 (assumption (h, low, high))
with_value-in_range setting.Search text g next h is =
    let p = put-ok g.search _ _ next is in
    let other = IsInRange-workers (unwrap_or g.search DEFAULT_SEARCH) p.0 (unwrap_or g.workers limits.DEFAULT_WORKERS) in
    let low = other (λ n. 1 ≤ n) h.settings.some_worker in
    let high = other (λ n. n ≤ limits.MAX_WORKERS) h.settings.few_workers in
    subst (λ g. IsInRange (options_of g)) p.2 (assumption (h, low, high))
with_value-in_range setting.Enc text g next h is =
    let p = put-ok g.enc _ _ next is in
    subst (λ g. IsInRange (options_of g)) p.2 (assumption h)
with_value-in_range setting.Pilots text g next h is =
    let p = put-ok g.pilots (number_in 1 MAX_PILOTS text) _ next is in
    let r = number_in-ok 1 MAX_PILOTS p.0 text p.1 in
    subst (λ g. IsInRange (options_of g)) p.2 (assumption (h, r))
with_value-in_range setting.Blocks text g next h is =
    let p = put-ok g.blocks (number_in 0 limits.MAX_BLOCKS text) _ next is in
    let r = number_in-ok 0 limits.MAX_BLOCKS p.0 text p.1 in
    subst (λ g. IsInRange (options_of g)) p.2 (assumption (h, r))
with_value-in_range setting.Limit text g next h is =
    let p = put-ok g.limit (number_in 1 MAX_KEYS text) _ next is in
    let r = number_in-ok 1 MAX_KEYS p.0 text p.1 in
    subst (λ g. IsInRange (options_of g)) p.2 (assumption (h, r))

-- a value by its name keeps the ranges
with_named-in_range : (s : Option Setting) (text : List ℕ) (g next : Given) → IsInRange (options_of g) →
    with_named s text g ≡ Ok next → IsInRange (options_of next)
with_named-in_range None text g next h is = cc
with_named-in_range (Some s) text g next h is = with_value-in_range s text g next h is

-- a value by a cut word keeps the ranges
with_parts-in_range : (parts : Option (List ℕ × List ℕ)) (g next : Given) → IsInRange (options_of g) →
    with_parts parts g ≡ Ok next → IsInRange (options_of next)
with_parts-in_range None g next h is = cc
with_parts-in_range (Some parts) g next h is = with_named-in_range (setting_of parts.0) parts.1 g next h is

-- a value by a word keeps the ranges
with_word-in_range : (word : List ℕ) (g next : Given) → IsInRange (options_of g) → with_word word g ≡ Ok next →
    IsInRange (options_of next)
unfolding with_word
with_word-in_range word g next h is = with_parts-in_range (cut_at EQUALS word) g next h is

-- words keep the settings in range
given_by-in_range : (words : List (List ℕ)) (first : ℕ) (g last : Given) → IsInRange (options_of g) →
    given_by words first g ≡ Ok last → IsInRange (options_of last)
unfolding given_by
given_by-in_range [] first g last h is =
    let same : g ≡ last = cc in subst (λ g. IsInRange (options_of g)) same h
given_by-in_range (word ∷ words) first g last h is =
    elim (with_word word g) as (λ r. with_word word g ≡ r →
    after_word first r (λ next. given_by words (first + 1) next) ≡ Ok last → IsInRange (options_of last)) [
      | Ok next ↦ λ good e. given_by-in_range words (first + 1) next last (with_word-in_range word g next h good) e
      | Err kind ↦ λ bad e. cc
    ] refl is

-- the defaults are in range
pub defaults_in_range : IsInRange (options_of nothing_given)
defaults_in_range = record {
  settings = record {
    some_seed = omega arith;
    few_seeds = omega arith;
    shape = record { alpha_low = omega arith; alpha_high = omega arith; c_low = omega arith; c_high = omega arith };
    some_partition = omega arith;
    few_partitions = omega arith;
    some_pilot = omega arith;
    few_pilots = omega arith;
    some_worker = omega arith;
    few_workers = omega arith;
  };
  few_blocks = omega arith;
  some_key = omega arith;
  few_keys = omega arith;
}

-- the settings that words give are in range
pub settings_in_range : (words : List (List ℕ)) (first : ℕ) (last : Given) →
    given_by words first nothing_given ≡ Ok last → IsInRange (options_of last)
settings_in_range words first last is = given_by-in_range words first nothing_given last defaults_in_range is
