-- Maps from names, changed at one name after another.
use Rattle.std.proofs.Common.{◌≡◌, ℕ, Bool, true, false, cond, List, Option, Some, None, refl, sym, ap, ◌∙◌}
use Rattle.std.specs.Ordering.{nat_cmp, eq_by_cmp}
use Rattle.std.specs.Cmp.Lexicographic.{slice_cmp}
use Rattle.std.specs.FinMap as map
use Rattle.std.proofs.lemmas.Cmp.{nat_list_cmp_total}
use Rattle.std.proofs.lemmas.Map.Text.{is_eq-slice_cmp}
use Rattle.std.proofs.lemmas.Slice.Eq.{bytes_eq-Decides}
use Rattle.pth_outside.specs.Files.{AtNames, put_at}

-- whether two names are the same
abbrev pub same_name : List ℕ → List ℕ → Bool
same_name a b = eq_by_cmp (slice_cmp nat_cmp) a b

-- the test that is true
pub same_name-true : (a b : List ℕ) → same_name a b ≡ true → a ≡ b
same_name-true a b is = (bytes_eq-Decides a b).0 (sym (is_eq-slice_cmp a b) ∙ is)

-- the test of a name and itself
pub same_name-same : (a b : List ℕ) → a ≡ b → same_name a b ≡ true
same_name-same a b is = is_eq-slice_cmp a b ∙ (bytes_eq-Decides a b).1 is

-- the test of two names, by its value
same_name_cases : (a b : List ℕ) (t : Bool) → same_name a b ≡ t → (a ≡ b → ⊥) → same_name a b ≡ false
same_name_cases a b true is other = absurd (other (same_name-true a b is))
same_name_cases a b false is other = is

-- the test of two different names
pub same_name-other : (a b : List ℕ) → (a ≡ b → ⊥) → same_name a b ≡ false
same_name-other a b other = same_name_cases a b (same_name a b) refl other

-- what a name stands for after a change at another or at itself
pub get-put_at : {X : Type 0} (m : AtNames X) (name : List ℕ) (x : Option X) (q : List ℕ) →
    map.get (put_at m name x) q ≡ cond (same_name q name) x (map.get m q)
get-put_at m name None q = map.get-remove nat_list_cmp_total m name q
get-put_at m name (Some x) q = map.get-insert nat_list_cmp_total m name x q

-- maps that answer alike are the same
pub same_at_names : {X : Type 0} (m n : AtNames X) → ((q : List ℕ) → map.get m q ≡ map.get n q) → m ≡ n
same_at_names m n alike = map.same_map nat_list_cmp_total (map.slice_cmp-IsAntisymmetric map.nat_cmp-IsAntisymmetric) m n alike

-- what the name of the change stands for
pub get_put : {X : Type 0} (m : AtNames X) (name : List ℕ) (x : Option X) → map.get (put_at m name x) name ≡ x
get_put m name x = get-put_at m name x name ∙ ap (λ (b : Bool). cond b x (map.get m name)) (same_name-same name name refl)

-- what another name stands for
pub get_put_other : {X : Type 0} (m : AtNames X) (name : List ℕ) (x : Option X) (q : List ℕ) → (q ≡ name → ⊥) →
    map.get (put_at m name x) q ≡ map.get m q
get_put_other m name x q other = get-put_at m name x q ∙ ap (λ (b : Bool). cond b x (map.get m q)) (same_name-other q name other)

-- the later of two choices by one test
twice : {X : Type 0} (b : Bool) (x y z : Option X) → cond b y (cond b x z) ≡ cond b y z
twice true x y z = refl
twice false x y z = refl

-- the later change at a name stands
pub put_put : {X : Type 0} (m : AtNames X) (name : List ℕ) (x y : Option X) →
    put_at (put_at m name x) name y ≡ put_at m name y
put_put m name x y = same_at_names _ _ (λ q. get-put_at (put_at m name x) name y q ∙ ap (cond (same_name q name) y) (get-put_at m name x q)
    ∙ twice (same_name q name) x y (map.get m q) ∙ sym (get-put_at m name y q))

-- two choices that don't meet
apart : {X : Type 0} (a b : Bool) (x y z : Option X) → (a ≡ true → b ≡ true → ⊥) →
    cond b y (cond a x z) ≡ cond a x (cond b y z)
apart true true x y z never = absurd (never refl refl)
apart true false x y z never = refl
apart false b x y z never = refl

-- changes at different names don't meet
pub put_swap : {X : Type 0} (m : AtNames X) (a b : List ℕ) (x y : Option X) → (a ≡ b → ⊥) →
    put_at (put_at m a x) b y ≡ put_at (put_at m b y) a x
put_swap m a b x y other = same_at_names _ _ (λ q. get-put_at (put_at m a x) b y q ∙ ap (cond (same_name q b) y) (get-put_at m a x q)
    ∙ apart (same_name q a) (same_name q b) x y (map.get m q) (λ p r. other (sym (same_name-true q a p) ∙ same_name-true q b r))
    ∙ ap (cond (same_name q a) x) (sym (get-put_at m b y q)) ∙ sym (get-put_at (put_at m b y) a x q))

-- a choice of what is there
kept_by : {X : Type 0} (b : Bool) (x z : Option X) → (b ≡ true → z ≡ x) → cond b x z ≡ z
kept_by true x z is = sym (is refl)
kept_by false x z is = refl

-- to put what is there changes nothing
pub put_same : {X : Type 0} (m : AtNames X) (name : List ℕ) (x : Option X) → map.get m name ≡ x → put_at m name x ≡ m
put_same m name x is = same_at_names _ _ (λ q. get-put_at m name x q
    ∙ kept_by (same_name q name) x (map.get m q) (λ p. ap (map.get m) (same_name-true q name p) ∙ is))
