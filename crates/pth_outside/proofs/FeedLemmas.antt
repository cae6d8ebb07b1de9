-- The first line feed, as the first of the places of line feeds.
use Rattle.std.proofs.Common.{◌≡◌, ◌<◌, ◌+◌, ◌-◌, ℕ, zero, suc, Bool, false, List, [], ◌∷◌, Option, Some, None}
use Rattle.std.proofs.Common.{length, take, drop, slice_index, get_or, sym, ap, subst, ◌∙◌, ⊎_elim, arith, length-take}
use Rattle.std.specs.Option.{IfSome, IfNone}
use Rattle.std.proofs.lemmas.Bool.{cases_Bool, cond-true, cond-false, false≢true, eqb-true, cases_eq}
use Rattle.std.proofs.lemmas.List.{get_or-take}
use Rattle.memchr.specs.Find.{TakesFirst, Passes, Nowhere, NoneBefore, is_byte, places_from, places}
use Rattle.pth_outside.specs.declared.TheConstants.{LINE_FEED}
use Rattle.pth_outside.specs.Keys.{HasNoFeed}
use Rattle.pth_outside.specs.Reading.{IsFirstFeed}

module _ (test : ℕ → Bool) (hay : List ℕ) where
  -- a place that doesn't pass is none of those that do
  not_here : (i k : ℕ) → test (slice_index hay i) ≡ false → i ≡ k → ¬ Passes test hay k
  not_here i k fails same passes = false≢true (sym fails ∙ ap (λ (n : ℕ). test (slice_index hay n)) same ∙ passes)

  -- where no place is listed, none passes
  none_listed : (i n : ℕ) → places_from test hay i n ≡ [] → Nowhere (Passes test hay) i (i + n)
  unfolding places_from
  none_listed i zero is k low high = absurd (omega arith)
  none_listed i (suc n) is k low high =
      ⊎_elim
      (λ yes. absurd (omega (arith, ap length (sym (cond-true _ _ _ yes) ∙ is))))
      (λ fails. ⊎_elim
      (λ same. not_here i k fails same)
      (λ other. none_listed (i + 1) n (sym (cond-false _ _ _ fails) ∙ is) k (omega arith) (omega arith))
      (cases_eq i k))
      (cases_Bool (test (slice_index hay i)))

  -- the first place that is listed is the first that passes
  first_listed : (i n k : ℕ) (rest : List ℕ) → places_from test hay i n ≡ k ∷ rest →
      NoneBefore (Passes test hay) i (i + n) k × Passes test hay k
  unfolding places_from
  first_listed i zero k rest is = absurd (omega (arith, ap length is))
  first_listed i (suc n) k rest is =
      ⊎_elim
      (λ yes.
      let same : i ≡ k = ap (λ (l : List ℕ). get_or l 0 0) (sym (cond-true _ _ _ yes) ∙ is) in (
        record { low = omega arith; high = omega arith; before = λ j low high. absurd (omega arith) },
        subst (Passes test hay) same yes,
      ))
      (λ fails.
      let later = first_listed (i + 1) n k rest (sym (cond-false _ _ _ fails) ∙ is) in
      let first = later.0 in (
        record {
          low = omega (arith, first.low);
          high = omega (arith, first.high);
          before = λ j low high. ⊎_elim (λ same. not_here i j fails same) (λ other. first.before j (omega arith) high) (cases_eq i j);
        },
        later.1,
      ))
      (cases_Bool (test (slice_index hay i)))

-- the places that were listed are those of the bytes ahead
pub feeds_ahead : (items lent ahead listed : List ℕ) (start end : ℕ) →
    listed ≡ places (is_byte LINE_FEED) (take (end - start) (drop start lent)) → lent ≡ items →
    take (end - start) (drop start items) ≡ ahead → listed ≡ places (is_byte LINE_FEED) ahead
feeds_ahead items lent ahead listed start end all same view =
    all ∙ ap (λ (x : List ℕ). places (is_byte LINE_FEED) (take (end - start) (drop start x))) same
    ∙ ap (places (is_byte LINE_FEED)) view

-- the first place that is taken is the first feed
pub found_feed : (bytes : List ℕ) (r : Option ℕ) (now rest : List ℕ) → now ≡ places (is_byte LINE_FEED) bytes →
    TakesFirst now r rest → IfSome r (IsFirstFeed bytes)
found_feed bytes None now rest all takes = tt
found_feed bytes (Some k) now rest all takes =
    let listed = first_listed (is_byte LINE_FEED) bytes 0 (length bytes - 0) k rest (sym all ∙ takes) in
    let first = listed.0 in
    let within : k < length bytes = omega (arith, first.high) in record {
      within = within;
      feed = eqb-true _ _ listed.1;
      before = λ j low below is. let under : j < k = omega (arith, length-take k bytes) in
          first.before j low under (ap (λ (b : ℕ). is_byte LINE_FEED b) (sym (get_or-take k bytes j 0 under)) ∙ is);
    }

-- where none is taken, there is no feed
pub no_feed : (bytes : List ℕ) (r : Option ℕ) (now rest : List ℕ) → now ≡ places (is_byte LINE_FEED) bytes →
    TakesFirst now r rest → IfNone r (HasNoFeed bytes)
no_feed bytes (Some k) now rest all takes = tt
no_feed bytes None now rest all takes =
    λ k low within. none_listed (is_byte LINE_FEED) bytes 0 (length bytes - 0) (sym all ∙ takes.0) k low (omega arith)
