-- What one more record at the end of a chain leaves.
use Rattle.std.proofs.Common.{◌≡◌, ◌≢◌, ◌⊎◌, ℕ, ◌+◌, ◌-◌, ◌*◌, ◌/◌, ◌%◌, ◌<◌, ◌≤◌, List, []}
use Rattle.std.proofs.Common.{◌∷◌, ◌++◌, length, map, get_or, set, sym, ap, ◌∙◌, subst, inl, inr, arith}
use Rattle.std.proofs.lemmas.Bool.{cases_eq}
use Rattle.std.proofs.lemmas.List.{get_or-set_same, get_or-set_other, get_or-map}
use Rattle.std.specs.List.{sum_by}
use Rattle.pthash.specs.Order.{numbers_below}
use Rattle.pthash.specs.declared.Record.{Record}
use Rattle.block_pool.specs.declared.blocks.Chain.{Chain}
use Rattle.block_pool.specs.Linking.{NO_RECORD, NO_CHAIN, held_at, place_in, records_of}
use Rattle.block_pool.specs.Layout.{block_count, block_at, HasBlock, IsLinked}
use Rattle.block_pool.proofs.Made.{made_same, made_more, map-set_others}

-- a chain has one record more, which is in block b; all other records are in the blocks in which they were
pub record Extends (next new : List ℕ) (chains : List Chain) (c : ℕ) (x : Chain) (b : ℕ) : Type 0 where
  pub present : c < length chains
  pub len : x.len ≡ (held_at chains c).len + 1
  pub tail : x.tail ≡ b
  pub kept : (d k : ℕ) → HasBlock chains d k → block_at new (set chains c x) d k ≡ block_at next chains d k
  pub last : block_at new (set chains c x) c ((held_at chains c).len / 1024) ≡ b
  pub own : (d k : ℕ) → HasBlock chains d k → block_at next chains d k ≡ b → (d ≡ c) × (k ≡ (held_at chains c).len / 1024)

module _ (next new : List ℕ) (chains : List Chain) (c : ℕ) (x : Chain) (b : ℕ) (extends : Extends next new chains c x b) where
  -- the chains with the changed one
  abbrev after : List Chain
  after = set chains c x

  -- the place of the new record's block
  abbrev m : ℕ
  m = (held_at chains c).len / 1024

  -- the chain itself
  at_same : held_at after c ≡ x
  at_same = get_or-set_same chains c x NO_CHAIN extends.present

  -- another chain
  at_other : (d : ℕ) → d ≢ c → held_at after d ≡ held_at chains d
  at_other d other = get_or-set_other chains c d x NO_CHAIN other

  -- a block is one of before, or that of the new record
  cases : (d k : ℕ) → HasBlock after d k
      → (HasBlock chains d k × (block_at new after d k ≡ block_at next chains d k))
      ⊎ ((d ≡ c) × ((k ≡ m) × (block_at new after d k ≡ b)))
  cases d k has =
      let long = extends.len in
      elim (cases_eq d c) [
        | inl here ↦
            let at : held_at after d ≡ x = ap (held_at after) here ∙ at_same in
            let within : k * 1024 < x.len = subst (λ (ch : Chain). k * 1024 < ch.len) at has in
            elim (cases_eq k m) [
              | inl last ↦
                  inr (here, (last, ap (λ (e : ℕ). block_at new after e k) here ∙ ap (block_at new after c) last ∙ extends.last))
              | inr earlier ↦
                  let before : k * 1024 < (held_at chains c).len = omega arith in
                  let same : HasBlock chains d k = subst (λ (e : ℕ). HasBlock chains e k) (sym here) before in
                  inl (same, extends.kept d k same)
            ]
        | inr other ↦
            let same : HasBlock chains d k = subst (λ (ch : Chain). k * 1024 < ch.len) (at_other d other) has in
            inl (same, extends.kept d k same)
      ]

  -- the last block of each chain
  tails : ((d : ℕ) → 0 < (held_at chains d).len → (held_at chains d).tail ≡ block_at next chains d (((held_at chains d).len - 1) / 1024))
      → (d : ℕ) → 0 < (held_at after d).len → (held_at after d).tail ≡ block_at new after d (((held_at after d).len - 1) / 1024)
  tails old d some =
      elim (cases_eq d c) [
        | inl here ↦
            let P : ℕ → Type 0 = λ e. (held_at after e).tail ≡ block_at new after e (((held_at after e).len - 1) / 1024) in
            let long : (held_at after c).len ≡ (held_at chains c).len + 1 = ap (λ (ch : Chain). ch.len) at_same ∙ extends.len in
            let place : m ≡ ((held_at after c).len - 1) / 1024 = omega arith in
            let at_c : P c = ap (λ (ch : Chain). ch.tail) at_same ∙ extends.tail ∙ sym extends.last ∙ ap (block_at new after c) place in
            subst P (sym here) at_c
        | inr other ↦
            let long : (held_at after d).len ≡ (held_at chains d).len = ap (λ (ch : Chain). ch.len) (at_other d other) in
            let last : ℕ = ((held_at chains d).len - 1) / 1024 in
            ap (λ (ch : Chain). ch.tail) (at_other d other) ∙ old d (omega arith)
            ∙ sym (extends.kept d last (omega arith))
            ∙ ap (λ (n : ℕ). block_at new after d ((n - 1) / 1024)) (sym long)
      ]

  -- the chains stay linked
  pub linked-extended : (spare : List ℕ) (count fewer made more : ℕ) → IsLinked next spare count made chains → length new ≡ length next
      → made ≤ more → more ≤ length next → b < more → fewer ≤ count → ((k : ℕ) → k < fewer → get_or spare k 0 ≢ b)
      → fewer + sum_by block_count after ≡ more → IsLinked new spare fewer more after
  linked-extended spare count fewer made more old same_length grows within b_in falls fresh counted =
      record {
        most = let most = old.most in omega arith;
        room = old.room ∙ sym same_length;
        made_within = omega arith;
        counted = counted;
        inside = λ d k h. elim (cases d k h) [
          | inl o ↦ let before = old.inside d k o.0 in let at = o.1 in omega arith
          | inr n ↦ let at = n.1.1 in omega arith
        ];
        spare_inside = λ k h. let before = old.spare_inside k (omega arith) in omega arith;
        apart = λ d e j k h i same. elim (cases d j h) [
          | inl o ↦ elim (cases e k i) [
            | inl p ↦ old.apart d e j k o.0 p.0 (sym o.1 ∙ same ∙ p.1)
            | inr n ↦ let own = extends.own d j o.0 (sym o.1 ∙ same ∙ n.1.1) in (own.0 ∙ sym n.0, own.1 ∙ sym n.1.0)
          ]
          | inr n ↦ elim (cases e k i) [
            | inl p ↦ let own = extends.own e k p.0 (sym p.1 ∙ sym same ∙ n.1.1) in (n.0 ∙ sym own.0, n.1.0 ∙ sym own.1)
            | inr q ↦ (n.0 ∙ sym q.0, n.1.0 ∙ sym q.1.0)
          ]
        ];
        spare_apart = λ d j k h below same. elim (cases d j h) [
          | inl o ↦ old.spare_apart d j k o.0 (omega arith) (sym o.1 ∙ same)
          | inr n ↦ fresh k below (sym same ∙ n.1.1)
        ];
        spares_differ = λ j k h i. old.spares_differ j k (omega arith) (omega arith);
        tails = tails old.tails;
      }

  -- the records of each chain stay, but for the new one
  module _ (records written : List Record) (made : ℕ) (item : Record)
      (inside : (d k : ℕ) → HasBlock chains d k → block_at next chains d k < made)
      (others : (i : ℕ) → i < made * 1024 → i ≢ b * 1024 + (held_at chains c).len % 1024 → get_or written i NO_RECORD ≡ get_or records i NO_RECORD)
      (here : get_or written (b * 1024 + (held_at chains c).len % 1024) NO_RECORD ≡ item) where
    -- a record that was in a chain
    stays : (d i : ℕ) → i < (held_at chains d).len
        → get_or written (place_in new (held_at after d) i) NO_RECORD ≡ get_or records (place_in next (held_at chains d) i) NO_RECORD
    stays d i within =
        let has : HasBlock chains d (i / 1024) = omega arith in
        let below = inside d (i / 1024) has in
        let place : ℕ = block_at next chains d (i / 1024) * 1024 + i % 1024 in
        let apart : place ≢ b * 1024 + (held_at chains c).len % 1024 =
        λ same.
        let block : block_at next chains d (i / 1024) ≡ b = omega arith in
        let own = extends.own d (i / 1024) has block in
        let its : (held_at chains d).len ≡ (held_at chains c).len = ap (λ (e : ℕ). (held_at chains e).len) own.0 in
        let at = own.1 in
        omega arith in
        ap (λ (block : ℕ). get_or written (block * 1024 + i % 1024) NO_RECORD) (extends.kept d (i / 1024) has)
        ∙ others place (omega arith) apart

    -- the chain has one record more, the others are as they were
    pub view-extended : map (records_of written new) after
        ≡ set (map (records_of records next) chains) c (get_or (map (records_of records next) chains) c [] ++ item ∷ [])
    unfolding records_of
    view-extended =
        let f : Chain → List Record = records_of records next in
        let length_c : ℕ = (held_at chains c).len in
        let was : ℕ → Record = λ i. get_or records (place_in next (held_at chains c) i) NO_RECORD in
        let now : ℕ → Record = λ i. get_or written (place_in new x i) NO_RECORD in
        let last : now length_c ≡ item =
        ap (λ (ch : Chain). get_or written (place_in new ch length_c) NO_RECORD) (sym at_same)
        ∙ ap (λ (block : ℕ). get_or written (block * 1024 + length_c % 1024) NO_RECORD) extends.last ∙ here in
        let before : map now (numbers_below length_c) ≡ map was (numbers_below length_c) =
        made_same NO_RECORD now was length_c
        (λ i h. ap (λ (ch : Chain). get_or written (place_in new ch i) NO_RECORD) (sym at_same) ∙ stays c i h) in
        let own : map now (numbers_below x.len) ≡ get_or (map f chains) c [] ++ item ∷ [] =
        ap (λ (n : ℕ). map now (numbers_below n)) extends.len ∙ made_more now length_c
        ∙ ap (λ (rs : List Record). rs ++ now length_c ∷ []) before
        ∙ ap (λ (r : Record). map was (numbers_below length_c) ++ r ∷ []) last
        ∙ ap (λ (rs : List Record). rs ++ item ∷ []) (sym (get_or-map f chains c NO_CHAIN [] extends.present)) in
        map-set_others f (records_of written new) chains c x NO_CHAIN (get_or (map f chains) c [] ++ item ∷ []) extends.present own
        (λ d h other.
        made_same NO_RECORD
        (λ i. get_or written (place_in new (held_at chains d) i) NO_RECORD)
        (λ i. get_or records (place_in next (held_at chains d) i) NO_RECORD)
        (held_at chains d).len
        (λ i within. ap (λ (ch : Chain). get_or written (place_in new ch i) NO_RECORD) (sym (at_other d other)) ∙ stays d i within))
