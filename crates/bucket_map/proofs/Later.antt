-- Sorted records, and where a permutation moves each.
use Rattle.std.proofs.Common.{◌≡◌, ℕ, zero, suc, ◌+◌, ◌-◌, ◌<◌, inl, inr, true, false, List, length, get_or, refl, sym, ap}
use Rattle.std.proofs.Common.{◌∙◌, subst, arith}
use Rattle.std.specs.List.{AllPairs}
use Rattle.std.specs.List.Sorted.{IsSortedByKey}
use Rattle.std.specs.Ordering.{nat_cmp, ordering_then, is_lt}
use Rattle.std.specs.declared.cmp.Ordering.{Ordering}
use Rattle.std.specs.declared.cmp.Ordering.TheVariants.{Less, Equal}
use Rattle.std.proofs.lemmas.Bool.{lt-ltb, le-ltb, eq-eqb, cases_order}
use Rattle.pthash.specs.declared.Record.{Record}
use Rattle.bucket_map.specs.Clash.{IsNoLater}

-- the three numbers of a record, in the order that they are compared in
abbrev pub key_of : Record → ℕ × ℕ × ℕ
key_of r = (r.a, r.b, r.ordinal)

-- their order
abbrev pub key_cmp : ℕ × ℕ × ℕ → ℕ × ℕ × ℕ → Ordering
key_cmp x y = ordering_then (ordering_then (nat_cmp x.0 y.0) (nat_cmp x.1 y.1)) (nat_cmp x.2 y.2)

-- a lesser number compares as less
nat_cmp-lt : (x y : ℕ) → x < y → nat_cmp x y ≡ Less
nat_cmp-lt x y h = rw (lt-ltb x y h) refl

-- equal numbers compare as equal
nat_cmp-eq : (x y : ℕ) → x ≡ y → nat_cmp x y ≡ Equal
nat_cmp-eq x y h = rw (le-ltb x y (omega arith), eq-eqb x y h) refl

-- a record whose successor is not less is no later
pub no_later-from_test : (x y : Record) → is_lt (key_cmp (key_of y) (key_of x)) ≡ false → IsNoLater x y
no_later-from_test x y test =
    elim (cases_order x.a y.a) [
      | inl same_a ↦
          let test_b : is_lt (ordering_then (nat_cmp y.b x.b) (nat_cmp y.ordinal x.ordinal)) ≡ false =
          ap (λ (o : Ordering). is_lt (ordering_then (ordering_then o (nat_cmp y.b x.b)) (nat_cmp y.ordinal x.ordinal)))
          (sym (nat_cmp-eq y.a x.a (sym same_a))) ∙ test in
          inr (
            same_a,
            elim (cases_order x.b y.b) [
              | inl same_b ↦
                  let test_o : is_lt (nat_cmp y.ordinal x.ordinal) ≡ false =
                  ap (λ (o : Ordering). is_lt (ordering_then o (nat_cmp y.ordinal x.ordinal))) (sym (nat_cmp-eq y.b x.b (sym same_b))) ∙ test_b in
                  inr (
                    same_b,
                    elim (cases_order x.ordinal y.ordinal) [
                      | inl same_o ↦ omega arith
                      | inr other_o ↦ elim other_o [
                        | inl low_o ↦ omega arith
                        | inr high_o ↦
                            let less : is_lt (nat_cmp y.ordinal x.ordinal) ≡ true = ap is_lt (nat_cmp-lt y.ordinal x.ordinal high_o) in
                            let no : true ≡ false = sym less ∙ test_o in cc
                      ]
                    ],
                  )
              | inr other_b ↦ elim other_b [
                | inl low_b ↦ inl low_b
                | inr high_b ↦
                    let less : is_lt (ordering_then (nat_cmp y.b x.b) (nat_cmp y.ordinal x.ordinal)) ≡ true =
                    ap (λ (o : Ordering). is_lt (ordering_then o (nat_cmp y.ordinal x.ordinal))) (nat_cmp-lt y.b x.b high_b) in
                    let no : true ≡ false = sym less ∙ test_b in cc
              ]
            ],
          )
      | inr other_a ↦ elim other_a [
        | inl low_a ↦ inl low_a
        | inr high_a ↦
            let less : is_lt (key_cmp (key_of y) (key_of x)) ≡ true =
            ap (λ (o : Ordering). is_lt (ordering_then (ordering_then o (nat_cmp y.b x.b)) (nat_cmp y.ordinal x.ordinal))) (nat_cmp-lt y.a x.a high_a) in
            let no : true ≡ false = sym less ∙ test in cc
      ]
    ]

-- what is no later than a record that is no later is no later
pub no_later-trans : (x y z : Record) → IsNoLater x y → IsNoLater y z → IsNoLater x z
no_later-trans x y z (inl a) (inl p) = inl (omega arith)
no_later-trans x y z (inl a) (inr p) = inl (let e = p.0 in omega arith)
no_later-trans x y z (inr a) (inl p) = inl (let e = a.0 in omega arith)
no_later-trans x y z (inr (a, inl b)) (inr (p, inl q)) = inr (a ∙ p, inl (omega arith))
no_later-trans x y z (inr (a, inl b)) (inr (p, inr q)) = inr (a ∙ p, inl (let e = q.0 in omega arith))
no_later-trans x y z (inr (a, inr b)) (inr (p, inl q)) = inr (a ∙ p, inl (let e = b.0 in omega arith))
no_later-trans x y z (inr (a, inr b)) (inr (p, inr q)) = inr (a ∙ p, inr (b.0 ∙ q.0, let m = b.1 in let n = q.1 in omega arith))

-- records that are sorted among neighbours are sorted
no_later-far : (records : List Record) → IsSortedByKey key_of key_cmp records
    → (i gap : ℕ) (d : Record) → i + suc gap < length records → IsNoLater (get_or records i d) (get_or records (i + suc gap) d)
no_later-far records sorted i zero d h =
    let P : ℕ → Type 0 = λ n. IsNoLater (get_or records i d) (get_or records n d) in
    let at : i + 1 ≡ i + suc zero = omega arith in
    subst P at (no_later-from_test (get_or records i d) (get_or records (i + 1) d) (sorted i d (omega arith) (omega arith)))
no_later-far records sorted i (suc gap) d h =
    let P : ℕ → Type 0 = λ n. IsNoLater (get_or records i d) (get_or records n d) in
    let at : (i + suc gap) + 1 ≡ i + suc (suc gap) = omega arith in
    subst P at
    (no_later-trans (get_or records i d) (get_or records (i + suc gap) d) (get_or records ((i + suc gap) + 1) d)
    (no_later-far records sorted i gap d (omega arith))
    (no_later-from_test (get_or records (i + suc gap) d) (get_or records ((i + suc gap) + 1) d) (sorted (i + suc gap) d (omega arith) (omega arith))))

-- records that are sorted among neighbours are sorted
pub AllPairs-sorted : (records : List Record) → IsSortedByKey key_of key_cmp records → AllPairs IsNoLater records
AllPairs-sorted records sorted =
    λ i j d i_lt_j j_in.
    let gap = j - i - 1 in
    let at : i + suc gap ≡ j = omega arith in
    let P : ℕ → Type 0 = λ n. IsNoLater (get_or records i d) (get_or records n d) in
    subst P at (no_later-far records sorted i gap d (omega arith))
