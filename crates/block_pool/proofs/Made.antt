-- Lists that are made of the numbers below a bound.
use Rattle.std.proofs.Common.{◌≡◌, ◌≢◌, ℕ, zero, suc, ◌+◌, ◌-◌, ◌<◌, ◌≤◌, min, List, [], ◌∷◌}
use Rattle.std.proofs.Common.{◌++◌, length, map, take, drop, get_or, set, refl, sym, ap, ◌∙◌, arith}
use Rattle.std.proofs.lemmas.List.{length-map, get_or-map, map_push, length-take, length-drop, get_or-take, get_or-drop, ext_get_or}
use Rattle.pthash.specs.Order.{numbers_below}
use Rattle.pthash.specs.OrderLaws.{length-numbers_below, get_or-numbers_below}

module _ {X : Type 0} where
  -- there is an element for each number
  pub length-made : (f : ℕ → X) (n : ℕ) → length (map f (numbers_below n)) ≡ n
  length-made f n = length-map (numbers_below n) f ∙ length-numbers_below n

  -- the element at a place
  pub get_or-made : (f : ℕ → X) (n i : ℕ) (d : X) → i < n → get_or (map f (numbers_below n)) i d ≡ f i
  get_or-made f n i d inside =
      get_or-map f (numbers_below n) i 0 d (omega (arith, length-numbers_below n)) ∙ ap f (get_or-numbers_below n i inside)

  -- functions that agree below n make the same list
  pub made_same : (d : X) (f g : ℕ → X) (n : ℕ) → ((i : ℕ) → i < n → f i ≡ g i) → map f (numbers_below n) ≡ map g (numbers_below n)
  made_same d f g n same =
      ext_get_or d (map f (numbers_below n)) (map g (numbers_below n)) (length-made f n ∙ sym (length-made g n))
      (λ i h. let inside : i < n = omega (arith, length-made f n) in get_or-made f n i d inside ∙ same i inside ∙ sym (get_or-made g n i d inside))

  -- one more number
  pub made_more : (f : ℕ → X) (n : ℕ) → map f (numbers_below (n + 1)) ≡ map f (numbers_below n) ++ f n ∷ []
  unfolding numbers_below
  made_more f n =
      let next : n + 1 ≡ suc n = omega arith in
      ap (λ (k : ℕ). map f (numbers_below k)) next ∙ map_push f (numbers_below n) n

  -- the first elements
  pub take-made : (d : X) (f : ℕ → X) (m n : ℕ) → take m (map f (numbers_below n)) ≡ map f (numbers_below (min m n))
  take-made d f m n =
      let long = length-take m (map f (numbers_below n)) ∙ ap (min m) (length-made f n) in
      ext_get_or d (take m (map f (numbers_below n))) (map f (numbers_below (min m n))) (long ∙ sym (length-made f (min m n)))
      (λ i h. let inside : i < min m n = omega (arith, long) in
      get_or-take m (map f (numbers_below n)) i d (omega arith) ∙ get_or-made f n i d (omega arith) ∙ sym (get_or-made f (min m n) i d inside))

  -- the elements after the first ones
  pub drop-made : (d : X) (f : ℕ → X) (m n : ℕ) → drop m (map f (numbers_below n)) ≡ map (λ i. f (m + i)) (numbers_below (n - m))
  drop-made d f m n =
      let g : ℕ → X = λ i. f (m + i) in
      let long : length (drop m (map f (numbers_below n))) ≡ n - m =
      length-drop m (map f (numbers_below n)) ∙ ap (λ (k : ℕ). k - m) (length-made f n) in
      ext_get_or d (drop m (map f (numbers_below n))) (map g (numbers_below (n - m))) (long ∙ sym (length-made g (n - m)))
      (λ i h. let inside : i < n - m = omega (arith, long) in
      get_or-drop m (map f (numbers_below n)) i d ∙ get_or-made f n (m + i) d (omega arith) ∙ sym (get_or-made g (n - m) i d inside))

  -- a part of a list, by its places
  pub part-made : (d : X) (xs : List X) (start n : ℕ) → start + n ≤ length xs →
      take n (drop start xs) ≡ map (λ i. get_or xs (start + i) d) (numbers_below n)
  part-made d xs start n within =
      let g : ℕ → X = λ i. get_or xs (start + i) d in
      let long : length (take n (drop start xs)) ≡ n = length-take n (drop start xs) ∙ omega (arith, length-drop start xs) in
      ext_get_or d (take n (drop start xs)) (map g (numbers_below n)) (long ∙ sym (length-made g n))
      (λ i h. let inside : i < n = omega (arith, long) in
      get_or-take n (drop start xs) i d inside ∙ get_or-drop start xs i d ∙ sym (get_or-made g n i d inside))

-- functions that agree everywhere on a list give the same
map_same : {X Y : Type 0} (f g : X → Y) (xs : List X) (d : X) → ((k : ℕ) → k < length xs → g (get_or xs k d) ≡ f (get_or xs k d)) →
    map g xs ≡ map f xs
map_same f g [] d same = refl
map_same {Y = Y} f g (x ∷ xs) d same =
    ap (λ (y : Y). y ∷ map g xs) (same 0 (omega arith)) ∙ ap (λ (ys : List Y). f x ∷ ys) (map_same f g xs d (λ k h. same (suc k) (omega arith)))

-- one element is replaced, and the functions agree on all others
pub map-set_others : {X Y : Type 0} (f g : X → Y) (xs : List X) (i : ℕ) (x d : X) (y : Y) → i < length xs → g x ≡ y
    → ((k : ℕ) → k < length xs → k ≢ i → g (get_or xs k d) ≡ f (get_or xs k d))
    → map g (set xs i x) ≡ set (map f xs) i y
map-set_others f g [] i x d y inside at others = absurd (omega arith)
map-set_others {Y = Y} f g (z ∷ zs) zero x d y inside at others =
    ap (λ (v : Y). v ∷ map g zs) at ∙ ap (λ (ys : List Y). y ∷ ys) (map_same f g zs d (λ k h. others (suc k) (omega arith) (omega arith)))
map-set_others {Y = Y} f g (z ∷ zs) (suc i) x d y inside at others =
    ap (λ (v : Y). v ∷ map g (set zs i x)) (others 0 (omega arith) (omega arith))
    ∙ ap (λ (ys : List Y). f z ∷ ys) (map-set_others f g zs i x d y (omega arith) at (λ k h ne. others (suc k) (omega arith) (omega arith)))
