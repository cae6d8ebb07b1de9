-- A list of keys as one run of bytes and the places where they end.
use Rattle.std.proofs.Common.{◌≡◌, ◌≤◌, ◌<◌, ◌+◌, ◌-◌, ℕ, zero, suc, List, [], ◌∷◌, ◌++◌, Some, length, take, drop}
use Rattle.std.proofs.Common.{get_or, refl, sym, ap, subst, ◌∙◌, arith, length-append, length-drop}
use Rattle.std.specs.Prelude.{slice_get}
use Rattle.std.proofs.lemmas.List.{get_or_default, drop_at, take-append-le, drop-append-le, length-take, take_all}
use Rattle.pth_outside.specs.declared.TheConstants.{LONGEST_KEY}
use Rattle.pth_outside.specs.KeyBytes.{cut_at, AreEnds, begin_at}

-- the last end is that of the bytes, so each end is within them
pub AreEnds-within : (start : ℕ) (ends : List ℕ) (len : ℕ) → AreEnds start ends len → start ≤ len
AreEnds-within start [] len are = omega arith
AreEnds-within start (end ∷ ends) len are = omega (arith, AreEnds-within end ends len are.2, are.0)

-- one key more
pub AreEnds-push : (start : ℕ) (ends : List ℕ) (len more : ℕ) → AreEnds start ends len → more ≤ LONGEST_KEY →
    AreEnds start (ends ++ (len + more) ∷ []) (len + more)
AreEnds-push start [] len more are short = (omega arith, omega arith, refl)
AreEnds-push start (end ∷ ends) len more are short = (are.0, are.1, AreEnds-push end ends len more are.2 short)

-- behind all bytes that were there are those that came
whole_rest : (bytes more : List ℕ) (start : ℕ) → start ≡ length bytes →
    take (length bytes + length more - start) (drop start (bytes ++ more)) ≡ more
whole_rest bytes more start is =
    let size : length bytes + length more - start ≡ length more = omega arith in
    ap (take (length bytes + length more - start)) (drop_at bytes more start (sym is))
    ∙ ap (λ (n : ℕ). take n more) size ∙ take_all (length more) more (omega arith)

-- one key more
pub cut_at-push : (start : ℕ) (ends bytes more : List ℕ) → AreEnds start ends (length bytes) →
    cut_at start (ends ++ (length bytes + length more) ∷ []) (bytes ++ more) ≡ cut_at start ends bytes ++ more ∷ []
cut_at-push start [] bytes more are = ap (λ (key : List ℕ). key ∷ []) (whole_rest bytes more start are)
cut_at-push start (end ∷ ends) bytes more are =
    let reach : end ≤ length bytes = AreEnds-within end ends (length bytes) are.2 in
    let begin : start ≤ length bytes = omega (arith, are.0) in
    let room : end - start ≤ length (drop start bytes) = omega (arith, length-drop start bytes) in
    let first : take (end - start) (drop start (bytes ++ more)) ≡ take (end - start) (drop start bytes) =
    ap (take (end - start)) (drop-append-le start bytes more begin) ∙ take-append-le (end - start) (drop start bytes) more room in
    ap (λ (key : List ℕ). key ∷ cut_at end (ends ++ (length bytes + length more) ∷ []) (bytes ++ more)) first
    ∙ ap (λ (keys : List (List ℕ)). take (end - start) (drop start bytes) ∷ keys) (cut_at-push end ends bytes more are.2)

-- as many keys as ends
pub length-cut_at : (start : ℕ) (ends bytes : List ℕ) → length (cut_at start ends bytes) ≡ length ends
length-cut_at start [] bytes = refl
length-cut_at start (end ∷ ends) bytes = ap suc (length-cut_at end ends bytes)

-- a key that isn't the first begins at the end of the one before it
pub begin_at-later : (start : ℕ) (ends : List ℕ) (i : ℕ) → 0 < i → begin_at start ends i ≡ get_or ends (i - 1) 0
begin_at-later start ends zero later = absurd (omega arith)
begin_at-later start ends (suc i) later = ap (λ (n : ℕ). get_or ends n 0) (omega arith)

-- a key begins where it does among the later keys
begin_next : (start end : ℕ) (ends : List ℕ) (i : ℕ) → begin_at start (end ∷ ends) (suc i) ≡ begin_at end ends i
begin_next start end ends zero = refl
begin_next start end ends (suc i) = refl

-- what a key's bounds are known to be
pub record IsKeyAt (start : ℕ) (ends bytes : List ℕ) (i from to : ℕ) : Type 0 where
  pub rises : from ≤ to
  pub within : to ≤ length bytes
  pub short : to ≤ from + LONGEST_KEY
  pub is : slice_get (cut_at start ends bytes) i ≡ Some (take (to - from) (drop from bytes))

-- the key between two ends
pub key_at : (start : ℕ) (ends bytes : List ℕ) (i from to : ℕ) → AreEnds start ends (length bytes) → i < length ends →
    from ≡ begin_at start ends i → to ≡ get_or ends i 0 → IsKeyAt start ends bytes i from to
key_at start [] bytes i from to are within begins ends_at = absurd (omega arith)
key_at start (end ∷ ends) bytes zero from to are within begins ends_at =
    let reach : end ≤ length bytes = AreEnds-within end ends (length bytes) are.2 in record {
      rises = omega (arith, are.0);
      within = omega arith;
      short = omega (arith, are.1);
      is = ap (λ (n : ℕ). Some (take (end - n) (drop n bytes))) (sym begins) ∙ ap (λ (n : ℕ). Some (take (n - from) (drop from bytes))) (sym ends_at);
    }
key_at start (end ∷ ends) bytes (suc i) from to are within begins ends_at =
    let below = key_at end ends bytes i from to are.2 (omega arith) (begins ∙ begin_next start end ends i) ends_at in
    record { rises = below.rises; within = below.within; short = below.short; is = below.is }

-- an index of the keys is one of the ends
pub within_ends : (ends bytes : List ℕ) (keys : List (List ℕ)) (i : ℕ) → cut_at 0 ends bytes ≡ keys →
    i < length keys → i < length ends
within_ends ends bytes keys i are within = omega (arith, ap length are, length-cut_at 0 ends bytes)

-- the key at a place, as the code reads its bounds
pub key_read : (ends bytes lent : List ℕ) (keys : List (List ℕ)) (i from to d : ℕ) →
    cut_at 0 ends bytes ≡ keys → AreEnds 0 ends (length bytes) → i < length keys → lent ≡ ends →
    from ≡ begin_at 0 lent i → to ≡ get_or ends i d → IsKeyAt 0 ends bytes i from to
key_read ends bytes lent keys i from to d are ends_are within same begins ends_at =
    let inside : i < length ends = within_ends ends bytes keys i are within in
    key_at 0 ends bytes i from to ends_are inside
    (begins ∙ ap (λ (es : List ℕ). begin_at 0 es i) same) (ends_at ∙ get_or_default _ _ _ _ inside)

-- the ends after a push, as the code computes them
pub AreEnds-pushed : (ends ends' bytes bytes' key : List ℕ) (end : ℕ) → AreEnds 0 ends (length bytes) →
    length key ≤ LONGEST_KEY → bytes' ≡ bytes ++ key → end ≡ length bytes' → ends' ≡ ends ++ end ∷ [] →
    AreEnds 0 ends' (length bytes')
AreEnds-pushed ends ends' bytes bytes' key end are short grown is pushed =
    let size : length bytes' ≡ length bytes + length key = ap length grown ∙ length-append bytes key in
    let P : ℕ → Type 0 = λ n. AreEnds 0 (ends ++ n ∷ []) n in
    let Q : ℕ → Type 0 = λ n. AreEnds 0 (ends ++ n ∷ []) (length bytes') in
    let R : List ℕ → Type 0 = λ es. AreEnds 0 es (length bytes') in
    subst R (sym pushed) (subst Q (sym is) (subst P (sym size) (AreEnds-push 0 ends (length bytes) (length key) are short)))

-- the keys after a push, as the code computes them
pub cut_at-pushed : (ends ends' bytes bytes' key : List ℕ) (end : ℕ) → AreEnds 0 ends (length bytes) →
    bytes' ≡ bytes ++ key → end ≡ length bytes' → ends' ≡ ends ++ end ∷ [] →
    cut_at 0 ends' bytes' ≡ cut_at 0 ends bytes ++ key ∷ []
cut_at-pushed ends ends' bytes bytes' key end are grown is pushed =
    let size : end ≡ length bytes + length key = is ∙ ap length grown ∙ length-append bytes key in
    ap (λ (es : List ℕ). cut_at 0 es bytes') pushed ∙ ap (λ (n : ℕ). cut_at 0 (ends ++ n ∷ []) bytes') size
    ∙ ap (cut_at 0 (ends ++ (length bytes + length key) ∷ [])) grown ∙ cut_at-push 0 ends bytes key are

-- a part has no more bytes than its ends are apart
pub short_key : (bytes : List ℕ) (from to : ℕ) → to ≤ from + LONGEST_KEY →
    length (take (to - from) (drop from bytes)) ≤ LONGEST_KEY
short_key bytes from to short = omega (arith, length-take (to - from) (drop from bytes))
