-- Looks that come to a view one after another, and what they found.
use Rattle.std.proofs.Common.{◌≡◌, ℕ, ◌/◌, ◌%◌, Bool, true, false, ◌&&◌, ◌||◌, List, []}
use Rattle.std.proofs.Common.{◌∷◌, ◌++◌, length, drop, refl, sym, ap}
use Rattle.std.proofs.Common.{◌∙◌}
use Rattle.std.specs.Prelude.{not, ◌==◌}
use Rattle.std.specs.Int.{bit_at}
use Rattle.std.specs.List.{list_all}
use Rattle.std.proofs.Math.Seq.{drop-append_seam}
use Rattle.std.proofs.Math.Bool.{or-false}
use Rattle.std.proofs.lemmas.Bool.{and_parts, and_from, or_left, or_right, both_ways}
use Rattle.std.proofs.lemmas.Bool.{eq-eqb}
use Rattle.std.proofs.lemmas.List.{append-nil, append_assoc}
use Rattle.std.proofs.lemmas.List.Folds.{list_any-append}
use Rattle.turn_search.specs.declared.board.Look.{Look}
use Rattle.turn_search.specs.declared.board.View.{View}
use Rattle.turn_search.specs.Looks.{found_taken, found_free}
use Rattle.turn_search.specs.Passes.{LooksAt, OnlyLooked, new_looks}

-- no look came
pub looked_none : (view : View) → OnlyLooked view view
looked_none view =
    let all : List Look → View = λ l. record view { looks = l } in
    record { more = []; view = ap all (sym (append-nil view.looks)) }

-- one look came
pub looked_once : (before after : View) (p : ℕ) (free : Bool) → LooksAt before after p free → OnlyLooked before after
looked_once before after p free look = record { more = (record { word = p / 64; value = look.value }) ∷ []; view = look.view }

-- looks came, and then more
pub looked_on : (one two three : View) → OnlyLooked one two → OnlyLooked two three → OnlyLooked one three
looked_on one two three first second = record {
  more = first.more ++ second.more;
  view =
      let once : View → View = λ (v : View). record v { looks = v.looks ++ second.more } in
      let all : List Look → View = λ l. record one { looks = l } in
      second.view ∙ ap once first.view ∙ ap all (append_assoc one.looks first.more second.more);
}

-- the new looks are those that came
pub new_looks-are : (before after : View) (looked : OnlyLooked before after) → new_looks before after ≡ looked.more
new_looks-are before after looked = ap (λ v. drop (length before.looks) v.looks) looked.view ∙ drop-append_seam before.looks looked.more

-- the new looks of both
pub new_looks-on : (one two three : View) → OnlyLooked one two → OnlyLooked two three → new_looks one three ≡ new_looks one two ++ new_looks two three
unfolding looked_on
new_looks-on one two three first second =
    new_looks-are one three (looked_on one two three first second)
    ∙ ap (λ l. l ++ second.more) (sym (new_looks-are one two first))
    ∙ ap (λ l. new_looks one two ++ l) (sym (new_looks-are two three second))

-- what looks found stays found among more
pub taken_left : (looks more : List Look) (p : ℕ) → found_taken looks p ≡ true → found_taken (looks ++ more) p ≡ true
taken_left looks more p found =
    list_any-append (λ (look : Look). look.word == p / 64 && bit_at look.value (p % 64) == 1) looks more
    ∙ or_left (found_taken looks p) (found_taken more p) found

-- what looks found free was found so among more
pub free_left : (looks more : List Look) (p : ℕ) → found_free looks p ≡ true → found_free (looks ++ more) p ≡ true
free_left looks more p found =
    list_any-append (λ (look : Look). look.word == p / 64 && not (bit_at look.value (p % 64) == 1)) looks more
    ∙ or_left (found_free looks p) (found_free more p) found

-- what the later looks found free was found so among all
pub free_right : (looks more : List Look) (p : ℕ) → found_free more p ≡ true → found_free (looks ++ more) p ≡ true
free_right looks more p found =
    list_any-append (λ (look : Look). look.word == p / 64 && not (bit_at look.value (p % 64) == 1)) looks more
    ∙ or_right (found_free looks p) (found_free more p) found

-- positions of which all pass a test pass a weaker one
all_weaker : (test weaker : ℕ → Bool) → ((p : ℕ) → test p ≡ true → weaker p ≡ true) → (ps : List ℕ) → list_all test ps ≡ true →
    list_all weaker ps ≡ true
all_weaker test weaker implies [] all = refl
all_weaker test weaker implies (p ∷ ps) all =
    let parts = and_parts (test p) (list_all test ps) all in
    and_from (weaker p) (list_all weaker ps) (implies p parts.0) (all_weaker test weaker implies ps parts.1)

-- positions that were all found free were so among more looks
pub all_free_left : (looks more : List Look) (ps : List ℕ) → list_all (found_free looks) ps ≡ true → list_all (found_free (looks ++ more)) ps ≡ true
all_free_left looks more ps all = all_weaker (found_free looks) (found_free (looks ++ more)) (free_left looks more) ps all

-- positions that later looks all found free were so among all
pub all_free_right : (looks more : List Look) (ps : List ℕ) → list_all (found_free more) ps ≡ true → list_all (found_free (looks ++ more)) ps ≡ true
all_free_right looks more ps all = all_weaker (found_free more) (found_free (looks ++ more)) (free_right looks more) ps all

-- a look that finds a position free is among the new ones
pub look_free : (before after : View) (p : ℕ) → LooksAt before after p true → found_free (new_looks before after) p ≡ true
unfolding looked_once
look_free before after p look =
    ap (λ l. found_free l p) (new_looks-are before after (looked_once before after p true look))
    ∙ or-false (p / 64 == p / 64 && not (bit_at look.value (p % 64) == 1))
    ∙ and_from (p / 64 == p / 64) (not (bit_at look.value (p % 64) == 1)) (eq-eqb (p / 64) (p / 64) refl) (sym look.answer)

-- a look that finds a position taken is among all
pub look_taken : (before after : View) (p : ℕ) → LooksAt before after p false → found_taken after.looks p ≡ true
look_taken before after p look =
    let set : (bit_at look.value (p % 64) == 1) ≡ true = not_false (bit_at look.value (p % 64) == 1) (sym look.answer) in
    ap (λ v. found_taken v.looks p) look.view
    ∙ list_any-append (λ (l : Look). l.word == p / 64 && bit_at l.value (p % 64) == 1) before.looks ((record { word = p / 64; value = look.value }) ∷ [])
    ∙ or_right (found_taken before.looks p) ((p / 64 == p / 64 && bit_at look.value (p % 64) == 1) || false)
    (or-false (p / 64 == p / 64 && bit_at look.value (p % 64) == 1)
    ∙ and_from (p / 64 == p / 64) (bit_at look.value (p % 64) == 1) (eq-eqb (p / 64) (p / 64) refl) set)
  where
    not_false : (b : Bool) → not b ≡ false → b ≡ true
    not_false true is = refl
    not_false false is = absurd (both_ways true is refl)
