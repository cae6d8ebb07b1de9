-- Groups that are read are spelled so, and what is spelled is read again, whatever follows.
use Rattle.std.proofs.Common.{◌≡◌, ℕ, zero, suc, ◌+◌, ◌-◌, ◌^◌, ◌<◌, ◌≤◌, max, min, List, [], ◌∷◌, ◌++◌, length, take}
use Rattle.std.proofs.Common.{drop, Ok, refl, sym, ap, ◌∙◌, subst}
use Rattle.std.proofs.Common.{append_assoc, inl, inr, arith}
use Rattle.std.specs.List.{flat_map}
use Rattle.std.proofs.lemmas.Bool.{cases_lt}
use Rattle.std.proofs.lemmas.List.{append-nil, take-take, take_at, drop_at, take_all, drop_all, length-append, length-take, length-drop, nil_from_length}
use Rattle.elias_fano.specs.declared.fault.ReadErr.{ReadErr}
use Rattle.elias_fano.specs.declared.fault.ReadErr.TheVariants as errors
use Rattle.elias_fano.specs.Reading.{◌>>=◌, Fails}
use Rattle.elias_fano.proofs.CallerLemmas.{IsBytes}
use Rattle.elias_fano.proofs.CallerLemmas.{bind_ok, ok_is, Takes, Takes-then}
use Rattle.pilot_codecs.specs.Spelling.{greatest, groups_for, groups_of, compact_text, parted_text}
use Rattle.pilot_codecs.specs.Reading.{compact_at, groups_at, parted_at}
use Rattle.pilot_codecs.proofs.GroupLemmas.{groups_for-more, flat-groups_of}
use Rattle.pilot_codecs.proofs.CompactLaws.{compact_takes, compact_again}

-- what stood at the front stays there
pub kept_through : (old more mid new : List ℕ) → mid ≡ old ++ more → take (length mid) new ≡ mid → take (length old) new ≡ old
kept_through old more mid new e kept =
    let longer : length old ≤ length mid = omega (arith, ap length e, length-append old more) in
    sym (take-take (length old) (length mid) new longer) ∙ ap (λ (xs : List ℕ). take (length old) xs) (kept ∙ e) ∙ take_at old more (length old) refl

-- the greatest of two lists is the greater of both
pub greatest-append : (xs ys : List ℕ) → greatest (xs ++ ys) ≡ max (greatest xs) (greatest ys)
unfolding greatest
greatest-append [] ys = omega arith
greatest-append (x ∷ xs) ys = omega (arith, greatest-append xs ys)

-- the first values have no greater one
pub greatest-take : (k : ℕ) (xs : List ℕ) → greatest (take k xs) ≤ greatest xs
unfolding greatest
greatest-take zero xs = omega arith
greatest-take (suc k) [] = omega arith
greatest-take (suc k) (x ∷ xs) = omega (arith, greatest-take k xs)

-- neither have the values after others
pub greatest-drop : (k : ℕ) (xs : List ℕ) → greatest (drop k xs) ≤ greatest xs
unfolding greatest
greatest-drop zero xs = omega arith
greatest-drop (suc k) [] = omega arith
greatest-drop (suc k) (x ∷ xs) = omega (arith, greatest-drop k xs)

-- the values of all groups
abbrev pub flat : List (List ℕ) → List ℕ
flat gs = flat_map (λ g. g) gs

-- what a reading of groups took
pub record IsGroupsText (bytes : List ℕ) (count : ℕ) (gs : List (List ℕ)) (rest : List ℕ) : Type 0 where
  pub taken : Takes bytes (flat_map compact_text gs) rest
  pub count_is : length (flat gs) ≡ count
  pub cut : groups_of (groups_for count) (flat gs) ≡ gs
  pub small : greatest (flat gs) < 2 ^ 64

-- a group and those behind it
cut_more : (n count : ℕ) (g : List ℕ) (gs : List (List ℕ)) → 0 < count → length g ≡ min 256 count → length (flat gs) ≡ count - 256 →
    groups_of (groups_for (count - 256)) (flat gs) ≡ gs → groups_of (groups_for count) (g ++ flat gs) ≡ g ∷ gs
unfolding groups_of
cut_more n count g gs lt size others cut =
    let parts : (take 256 (g ++ flat gs) ≡ g) × (drop 256 (g ++ flat gs) ≡ flat gs) = elim (cases_lt 256 count) [
      | inl more ↦ (take_at g (flat gs) 256 (omega (arith, size)), drop_at g (flat gs) 256 (omega (arith, size)))
      | inr le ↦
          let none : flat gs ≡ [] = nil_from_length (flat gs) (omega (arith, others)) in
          let alone : g ++ flat gs ≡ g = ap (λ (xs : List ℕ). g ++ xs) none ∙ append-nil g in (
            ap (λ (xs : List ℕ). take 256 xs) alone ∙ take_all 256 g (omega (arith, size)),
            ap (λ (xs : List ℕ). drop 256 xs) alone
                ∙ drop_all 256 g (omega (arith, size)) ∙ sym none,
          )
    ] in
    ap (λ (k : ℕ). groups_of k (g ++ flat gs)) (groups_for-more count lt)
    ∙ ap (λ (xs : List ℕ). xs ∷ groups_of (groups_for (count - 256)) (drop 256 (g ++ flat gs))) parts.0
    ∙ ap (λ (xs : List ℕ). g ∷ groups_of (groups_for (count - 256)) xs) parts.1
    ∙ ap (λ (hs : List (List ℕ)). g ∷ hs) cut

-- groups that are read stood there as the spelling of their values
pub groups_take : (n at count : ℕ) (bytes : List ℕ) (gs : List (List ℕ)) (rest : List ℕ) → n ≡ groups_for count → IsBytes bytes →
    groups_at n at count bytes ≡ Ok (gs, rest) → IsGroupsText bytes count gs rest
unfolding groups_at groups_of greatest
groups_take zero at count bytes gs rest n fits e =
    let none : count ≡ 0 = omega (arith, n) in
    let both = ok_is {A = List (List ℕ) × List ℕ} ([], bytes) (gs, rest) e in
    let made : IsGroupsText bytes count [] bytes = record {
      taken = record { parts = refl; rest_fits = fits };
      count_is = sym none;
      cut = ap (λ (k : ℕ). groups_of (groups_for k) []) none;
      small = omega arith;
    } in
    subst (λ (p : List (List ℕ) × List ℕ). IsGroupsText bytes count p.0 p.1) both made
groups_take (suc n) at count bytes gs rest k fits e =
    let lt : 0 < count = omega (arith, k) in
    let a = bind_ok (compact_at at (min 256 count) bytes) (λ first. groups_at n (at + (length bytes - length first.1)) (count - 256) first.1 >>= λ others.
    Ok (first.0 ∷ others.0, others.1)) (gs, rest) e in
    let b = bind_ok (groups_at n (at + (length bytes - length a.0.1)) (count - 256) a.0.1) (λ others. Ok (a.0.0 ∷ others.0, others.1)) (gs, rest) a.2 in
    let first = compact_takes at (min 256 count) bytes a.0.0 a.0.1 fits a.1 in
    let others = groups_take n (at + (length bytes - length a.0.1)) (count - 256) a.0.1 b.0.0 b.0.1 (omega (
      arith,
      k,
      groups_for-more count lt,
    )) first.taken.rest_fits b.1 in
    let made : IsGroupsText bytes count (a.0.0 ∷ b.0.0) b.0.1 = record {
      taken = Takes-then bytes (compact_text a.0.0) a.0.1 (flat_map compact_text b.0.0) b.0.1 first.taken others.taken;
      count_is = omega (arith, length-append a.0.0 (flat b.0.0), first.count_is, others.count_is);
      cut = cut_more n count a.0.0 b.0.0 lt first.count_is others.count_is others.cut;
      small = omega (arith, greatest-append a.0.0 (flat b.0.0), first.small, others.small);
    } in
    let same = ok_is {A = List (List ℕ) × List ℕ} (a.0.0 ∷ b.0.0, b.0.1) (gs, rest) b.2 in
    subst (λ (p : List (List ℕ) × List ℕ). IsGroupsText bytes count p.0 p.1) same made

-- the spelling of groups is read as these groups
pub groups_again : (n at : ℕ) (vs rest : List ℕ) → greatest vs < 2 ^ 64 → n ≡ groups_for (length vs) →
    groups_at n at (length vs) (flat_map compact_text (groups_of n vs) ++ rest) ≡ Ok (groups_of n vs, rest)
unfolding groups_at groups_of
groups_again zero at vs rest small n = refl
groups_again (suc n) at vs rest small k =
    let lt : 0 < length vs = omega (arith, k) in
    let g = take 256 vs in
    let others = groups_of n (drop 256 vs) in
    let after = flat_map compact_text others ++ rest in
    let bytes = (compact_text g ++ flat_map compact_text others) ++ rest in
    let text : bytes ≡ compact_text g ++ after = append_assoc (compact_text g) (flat_map compact_text others) rest in
    let size : length g ≡ min 256 (length vs) = length-take 256 vs in
    let first : compact_at at (min 256 (length vs)) bytes ≡ Ok (g, after) =
    ap (λ (j : ℕ). compact_at at j bytes) (sym size) ∙ ap (λ (t : List ℕ). compact_at at (length g) t) text
    ∙ compact_again at g after (omega (arith, greatest-take 256 vs)) in
    let behind : length (drop 256 vs) ≡ length vs - 256 = length-drop 256 vs in
    let place = at + (length bytes - length after) in
    let more : groups_at n place (length vs - 256) after ≡ Ok (others, rest) =
    ap (λ (j : ℕ). groups_at n place j after) (sym behind)
    ∙ groups_again n place (drop 256 vs) rest (omega (arith, greatest-drop 256 vs)) (omega (arith, k, groups_for-more (length vs) lt, behind)) in
    rw (first, more) refl

-- a fault of the groups is that of the list
pub parted_at-fails : (e : ReadErr) (at count : ℕ) (bytes : List ℕ) → Fails e (groups_at (groups_for count) at count bytes) →
    Fails e (parted_at at count bytes)
unfolding parted_at
parted_at-fails errors.NoMemory at count bytes h = tt
parted_at-fails (errors.Form f) at count bytes h = rw h refl

-- without a fault the groups are the list
pub parted_at-ok : (at count : ℕ) (bytes : List ℕ) (gs : List (List ℕ)) (rest : List ℕ) →
    groups_at (groups_for count) at count bytes ≡ Ok (gs, rest) →
    parted_at at count bytes ≡ Ok (flat gs, rest)
unfolding parted_at
parted_at-ok at count bytes gs rest h = rw h refl

-- what a reading of a list in groups took
pub record IsPartedText (bytes : List ℕ) (count : ℕ) (vs rest : List ℕ) : Type 0 where
  pub taken : Takes bytes (parted_text vs) rest
  pub count_is : length vs ≡ count
  pub small : greatest vs < 2 ^ 64

-- a list that is read stood there as its spelling
pub parted_takes : (at count : ℕ) (bytes vs rest : List ℕ) → IsBytes bytes → parted_at at count bytes ≡ Ok (vs, rest) →
    IsPartedText bytes count vs rest
unfolding parted_at parted_text
parted_takes at count bytes vs rest fits e =
    let a = bind_ok (groups_at (groups_for count) at count bytes) (λ groups. Ok (flat groups.0, groups.1)) (vs, rest) e in
    let t = groups_take (groups_for count) at count bytes a.0.0 a.0.1 refl fits a.1 in
    let cut : groups_of (groups_for (length (flat a.0.0))) (flat a.0.0) ≡ a.0.0 = ap (λ (k : ℕ). groups_of (groups_for k) (flat a.0.0)) t.count_is
    ∙ t.cut in
    let taken : Takes bytes (flat_map compact_text (groups_of (groups_for (length (flat a.0.0))) (flat a.0.0))) a.0.1 =
    subst (λ (gs : List (List ℕ)). Takes bytes (flat_map compact_text gs) a.0.1) (sym cut) t.taken in
    let made : IsPartedText bytes count (flat a.0.0) a.0.1 = record { taken = taken; count_is = t.count_is; small = t.small } in
    subst (λ (p : List ℕ × List ℕ). IsPartedText bytes count p.0 p.1) (ok_is {A = List ℕ × List ℕ} (flat a.0.0, a.0.1) (vs, rest) a.2) made

-- the spelling of a list is read as that list
pub parted_again : (at : ℕ) (vs rest : List ℕ) → greatest vs < 2 ^ 64 → parted_at at (length vs) (parted_text vs ++ rest) ≡ Ok (vs, rest)
unfolding parted_text
parted_again at vs rest small =
    let n = groups_for (length vs) in
    parted_at-ok at (length vs) (flat_map compact_text (groups_of n vs) ++ rest) (groups_of n vs) rest (groups_again n at vs rest small refl)
    ∙ ap (λ (xs : List ℕ). Ok (xs, rest)) (flat-groups_of n vs (omega arith))
