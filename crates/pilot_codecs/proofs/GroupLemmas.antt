-- Groups of a list, and reading them one after the other, as a loop does.
use Rattle.std.proofs.Common.{◌≡◌, ℕ, zero, suc, ◌+◌, ◌*◌, ◌-◌, ◌/◌, ◌%◌, ◌<◌, ◌≤◌, min, List, [], ◌∷◌, ◌++◌}
use Rattle.std.proofs.Common.{length, get_or, take, drop, Some, Result, Ok}
use Rattle.std.proofs.Common.{Err, refl, sym, ap, ◌∙◌, append_assoc, arith}
use Rattle.std.specs.List.{flat_map, slice_get}
use Rattle.std.proofs.lemmas.List.{append-nil, drop-drop, take-append-drop, length-drop, length-take}
use Rattle.elias_fano.specs.declared.fault.FormFault.{FormFault}
use Rattle.elias_fano.specs.declared.fault.ReadErr.{ReadErr}
use Rattle.elias_fano.specs.declared.fault.ReadErr.TheVariants as errors
use Rattle.elias_fano.specs.Reading.{◌>>=◌, Fails}
use Rattle.elias_fano.proofs.CallerLemmas.{bind_ok, ok_is}
use Rattle.elias_fano.proofs.CallerLemmas.{slice_get-is}
use Rattle.pilot_codecs.specs.Spelling.{groups_for, groups_of}
use Rattle.pilot_codecs.specs.Reading.{compact_at, groups_at}
use Rattle.pilot_codecs.specs.Parts.{group_more_at}

-- where there are values, there is a first group, and the others are those of the rest
pub groups_for-more : (count : ℕ) → 0 < count → groups_for count ≡ suc (groups_for (count - 256))
groups_for-more count lt = omega arith

-- as many groups as asked for are cut
pub length-groups_of : (n : ℕ) (vs : List ℕ) → length (groups_of n vs) ≡ n
unfolding groups_of
length-groups_of zero vs = refl
length-groups_of (suc n) vs = ap suc (length-groups_of n (drop 256 vs))

-- the groups of a list are the list
pub flat-groups_of : (n : ℕ) (vs : List ℕ) → length vs ≤ 256 * n → flat_map (λ g. g) (groups_of n vs) ≡ vs
unfolding groups_of
flat-groups_of zero vs le = sym (Rattle.std.proofs.lemmas.List.nil_from_length vs (omega (arith, le)))
flat-groups_of (suc n) vs le = ap (λ (xs : List ℕ). take 256 vs ++ xs) (flat-groups_of n (drop 256 vs) (omega (arith, length-drop 256 vs)))
    ∙ take-append-drop 256 vs

-- the first group is the first 256 values, and the others are those of the rest
pub groups_of-more : (vs : List ℕ) → 0 < length vs →
    groups_of (groups_for (length vs)) vs ≡ take 256 vs ∷ groups_of (groups_for (length (drop 256 vs))) (drop 256 vs)
unfolding groups_of
groups_of-more vs lt =
    ap (λ (k : ℕ). groups_of k vs) (groups_for-more (length vs) lt)
    ∙ ap (λ (k : ℕ). take 256 vs ∷ groups_of (groups_for k) (drop 256 vs)) (sym (length-drop 256 vs))

-- an empty list has no groups
pub groups_of-none : (vs : List ℕ) → length vs ≡ 0 → groups_of (groups_for (length vs)) vs ≡ []
unfolding groups_of
groups_of-none vs e = ap (λ (k : ℕ). groups_of (groups_for k) vs) e

-- a group is 256 values from its place on
get_or-groups_of : (n : ℕ) (vs : List ℕ) (g : ℕ) (d : List ℕ) → g < n → get_or (groups_of n vs) g d ≡ take 256 (drop (256 * g) vs)
unfolding groups_of
get_or-groups_of zero vs g d lt = absurd (omega arith)
get_or-groups_of (suc n) vs zero d lt = refl
get_or-groups_of (suc n) vs (suc g) d lt =
    let place : 256 + 256 * g ≡ 256 * suc g = omega arith in
    get_or-groups_of n (drop 256 vs) g d (omega arith) ∙ ap (λ (xs : List ℕ). take 256 xs) (drop-drop (256 * g) 256 vs
    ∙ ap (λ (k : ℕ). drop k vs) place)

-- a value among the first is the same value
slice_get-take : (k : ℕ) (xs : List ℕ) (r : ℕ) → r < k → slice_get (take k xs) r ≡ slice_get xs r
slice_get-take zero xs r lt = absurd (omega arith)
slice_get-take (suc k) [] r lt = refl
slice_get-take (suc k) (x ∷ xs) zero lt = refl
slice_get-take (suc k) (x ∷ xs) (suc r) lt = slice_get-take k xs r (omega arith)

-- a value after others is the value that far on
slice_get-drop : (k : ℕ) (xs : List ℕ) (r i : ℕ) → k + r ≡ i → slice_get (drop k xs) r ≡ slice_get xs i
slice_get-drop zero xs r i e = ap (λ (j : ℕ). slice_get xs j) (omega arith)
slice_get-drop (suc k) [] r i e = refl
slice_get-drop (suc k) (x ∷ xs) r zero e = absurd (omega arith)
slice_get-drop (suc k) (x ∷ xs) r (suc i) e = slice_get-drop k xs r i (omega arith)

-- the group of a value is the 256 from its place on
group_is : (groups : List (List ℕ)) (vs : List ℕ) (i : ℕ) → groups_of (groups_for (length vs)) vs ≡ groups → i < length vs →
    get_or groups (i / 256) [] ≡ take 256 (drop (256 * (i / 256)) vs)
group_is groups vs i cut lt = ap (λ (gs : List (List ℕ)). get_or gs (i / 256) []) (sym cut)
    ∙ get_or-groups_of (groups_for (length vs)) vs (i / 256) [] (omega arith)

-- a value has a place in its group
pub within_group : (groups : List (List ℕ)) (vs : List ℕ) (i : ℕ) → groups_of (groups_for (length vs)) vs ≡ groups → i < length vs →
    i % 256 < length (get_or groups (i / 256) [])
within_group groups vs i cut lt =
    let g = i / 256 in
    let size : length (get_or groups g []) ≡ min 256 (length (drop (256 * g) vs)) = ap length (group_is groups vs i cut lt)
    ∙ length-take 256 (drop (256 * g) vs) in
    omega (arith, size, length-drop (256 * g) vs)

-- a value by its group and its place in the group
pub get_or-group : (groups : List (List ℕ)) (vs : List ℕ) (i : ℕ) → groups_of (groups_for (length vs)) vs ≡ groups → i < length vs →
    Some (get_or (get_or groups (i / 256) []) (i % 256) 0) ≡ slice_get vs i
get_or-group groups vs i cut lt =
    let g = i / 256 in
    let r = i % 256 in
    sym (slice_get-is (get_or groups g []) r 0 (within_group groups vs i cut lt)) ∙ ap (λ (xs : List ℕ). slice_get xs r) (group_is groups vs i cut lt)
    ∙ slice_get-take 256 (drop (256 * g) vs) r (omega arith) ∙ slice_get-drop (256 * g) vs r i (omega arith)

-- ---- reading

-- what was read before, and what is still read
abbrev pub with_front : List (List ℕ) → Result (List (List ℕ) × List ℕ) FormFault → Result (List (List ℕ) × List ℕ) FormFault
with_front front read = read >>= λ x. Ok (front ++ x.0, x.1)

-- a group in front of what is read moves to what was read
regroup : (front : List (List ℕ)) (g : List ℕ) (read : Result (List (List ℕ) × List ℕ) FormFault) →
    with_front front (read >>= λ x. Ok (g ∷ x.0, x.1)) ≡ with_front (front ++ g ∷ []) read
regroup front g (Ok x) = ap (λ (gs : List (List ℕ)). Ok (gs, x.1)) (simp append_assoc)
regroup front g (Err f) = refl

-- what is left after a group is what is left after 256 values, or nothing
size_is : (left size : ℕ) → 0 < left → size ≡ min 256 left → left - size ≡ left - 256
size_is left size lt e = omega arith

-- a group that is read moves to what was read
pub goes_on : (front : List (List ℕ)) (left place size : ℕ) (bytes g after : List ℕ) (total : Result (List (List ℕ) × List ℕ) FormFault) →
    0 < left →
    size ≡ min 256 left → compact_at place size bytes ≡ Ok (g, after) →
    with_front front (groups_at (groups_for left) place left bytes) ≡ total →
    with_front (front ++ g ∷ []) (groups_at (groups_for (left - size)) (place + (length bytes - length after)) (left - size) after) ≡ total
unfolding groups_at
goes_on front left place size bytes g after total lt s h so_far =
    let k = groups_for-more left lt in
    let next = size_is left size lt s in
    let read : compact_at place (min 256 left) bytes ≡ Ok (g, after) = ap (λ (j : ℕ). compact_at place j bytes) (sym s) ∙ h in
    let one : with_front front (groups_at (groups_for left) place left bytes)
    ≡ with_front (front ++ g ∷ []) (groups_at (groups_for (left - 256)) (place + (length bytes - length after)) (left - 256) after) =
    rw (k, read) (regroup front g (groups_at (groups_for (left - 256)) (place + (length bytes - length after)) (left - 256) after)) in
    ap (λ (j : ℕ). with_front (front ++ g ∷ []) (groups_at (groups_for j) (place + (length bytes - length after)) j after)) next ∙ sym one ∙ so_far

-- a fault of the next group is that of all of them
pub ends : (e : ReadErr) (front : List (List ℕ)) (left place size : ℕ) (bytes : List ℕ) (total : Result (List (List ℕ) × List ℕ) FormFault) →
    0 < left →
    size ≡ min 256 left → Fails e (compact_at place size bytes) →
    with_front front (groups_at (groups_for left) place left bytes) ≡ total → Fails e total
unfolding groups_at
ends errors.NoMemory front left place size bytes total lt s h so_far = tt
ends (errors.Form f) front left place size bytes total lt s h so_far =
    let k = groups_for-more left lt in
    let read : compact_at place (min 256 left) bytes ≡ Err f = ap (λ (j : ℕ). compact_at place j bytes) (sym s) ∙ h in
    let one : with_front front (groups_at (groups_for left) place left bytes) ≡ Err f = rw (k, read) refl in
    sym so_far ∙ one

-- where no values are left, what was read is all
pub is_done : (front : List (List ℕ)) (left place : ℕ) (bytes : List ℕ) (total : Result (List (List ℕ) × List ℕ) FormFault) → left ≡ 0 →
    with_front front (groups_at (groups_for left) place left bytes) ≡ total → total ≡ Ok (front, bytes)
unfolding groups_at
is_done front left place bytes total e so_far =
    let k : groups_for left ≡ 0 = omega arith in
    let one : with_front front (groups_at (groups_for left) place left bytes) ≡ Ok (front, bytes) =
    rw k (ap (λ (gs : List (List ℕ)). Ok (gs, bytes)) (append-nil front)) in
    sym so_far ∙ one

-- ---- a group more

-- the groups with one more that stood in front of the bytes
pub record IsMore (groups new : List (List ℕ)) (at count : ℕ) (bytes after : List ℕ) : Type 0 where
  pub group : List ℕ
  pub read : compact_at at count bytes ≡ Ok (group, after)
  pub more : new ≡ groups ++ group ∷ []

-- a group more that is read stands behind the others
pub more_read : (groups new : List (List ℕ)) (at count : ℕ) (bytes after : List ℕ) → group_more_at groups at count bytes ≡ Ok (new, after) →
    IsMore groups new at count bytes after
more_read groups new at count bytes after e =
    let a = bind_ok (compact_at at count bytes) (λ x. Ok (groups ++ x.0 ∷ [], x.1)) (new, after) e in
    let both = ok_is {A = List (List ℕ) × List ℕ} (groups ++ a.0.0 ∷ [], a.0.1) (new, after) a.2 in
    record {
      group = a.0.0;
      read = a.1 ∙ ap (λ (r : List ℕ). Ok (a.0.0, r)) (ap (λ (p : List (List ℕ) × List ℕ). p.1) both);
      more = sym (ap (λ (p : List (List ℕ) × List ℕ). p.0) both);
    }

-- a group that is read stands behind the others
pub group_more_at-ok : (groups : List (List ℕ)) (at count : ℕ) (bytes group after : List ℕ) → compact_at at count bytes ≡ Ok (group, after) →
    group_more_at groups at count bytes ≡ Ok (groups ++ group ∷ [], after)
group_more_at-ok groups at count bytes group after h = rw h refl

-- a fault of the group is that of the groups
pub group_more_at-fails : (e : ReadErr) (groups : List (List ℕ)) (at count : ℕ) (bytes : List ℕ) → Fails e (compact_at at count bytes) →
    Fails e (group_more_at groups at count bytes)
group_more_at-fails errors.NoMemory groups at count bytes h = tt
group_more_at-fails (errors.Form f) groups at count bytes h = rw h refl

-- the groups with one more
abbrev pub with_more : List (List ℕ) → List ℕ × List ℕ → Result (List (List ℕ) × List ℕ) FormFault
with_more groups x = Ok (groups ++ x.0 ∷ [], x.1)

-- a fault of the groups with one more is that of the one
not_more : (groups : List (List ℕ)) (read : Result (List ℕ × List ℕ) FormFault) (f : FormFault) → (read >>= with_more groups) ≡ Err f →
    read ≡ Err f
not_more groups (Ok x) f e = absurd cc
not_more groups (Err g) f e = let same : g ≡ f = cc in ap Err same

-- so it is with any error
pub compact_at-fails : (e : ReadErr) (groups : List (List ℕ)) (at count : ℕ) (bytes : List ℕ) → Fails e (group_more_at groups at count bytes) →
    Fails e (compact_at at count bytes)
compact_at-fails errors.NoMemory groups at count bytes h = tt
compact_at-fails (errors.Form f) groups at count bytes h = not_more groups (compact_at at count bytes) f h
