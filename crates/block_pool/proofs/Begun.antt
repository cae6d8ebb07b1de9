-- How a record comes to the end of a chain: in its last block, or in one more.
use Rattle.std.proofs.Common.{◌≡◌, ◌≢◌, ℕ, suc, ◌+◌, ◌-◌, ◌*◌, ◌/◌, ◌%◌, ◌<◌, ◌≤◌}
use Rattle.std.proofs.Common.{List, length, get_or, set, sym, ap, ◌∙◌, subst, inl, inr, arith}
use Rattle.std.proofs.lemmas.Bool.{cases_eq}
use Rattle.std.proofs.lemmas.List.{get_or-set_same, get_or-set_other, length-set}
use Rattle.std.proofs.lemmas.List.Sums.{sum_by-set, get_or-le-sum_by}
use Rattle.std.specs.List.{sum_by}
use Rattle.block_pool.specs.declared.blocks.Chain.{Chain}
use Rattle.block_pool.specs.Linking.{NO_CHAIN, held_at, block_from}
use Rattle.block_pool.specs.Layout.{block_count, block_at, HasBlock, IsLinked}
use Rattle.block_pool.proofs.Links.{block_from-set}
use Rattle.block_pool.proofs.Extended.{Extends}

module _ (next spare : List ℕ) (count made : ℕ) (chains : List Chain) (linked : IsLinked next spare count made chains) where
  -- a chain's length is within the pool
  pub len_within : (c : ℕ) → c < length chains → (held_at chains c).len ≤ 65536 * 1024
  len_within c present =
      let one = get_or-le-sum_by block_count chains c NO_CHAIN present in
      let counted = linked.counted in
      let within = linked.made_within in
      let most = linked.most in
      omega arith

  -- the last block of a chain that has records
  pub tail_inside : (c : ℕ) → 0 < (held_at chains c).len → (held_at chains c).tail < made
  tail_inside c some =
      let at = linked.tails c some in
      let inside = linked.inside c (((held_at chains c).len - 1) / 1024) (omega arith) in
      omega arith

  module _ (c : ℕ) (x : Chain) (present : c < length chains) (len : x.len ≡ (held_at chains c).len + 1) where
    -- a chain starts where it started, if the changed one does
    head_stays : x.head ≡ (held_at chains c).head → (d : ℕ) → (held_at (set chains c x) d).head ≡ (held_at chains d).head
    head_stays head d =
        elim (cases_eq d c) [
          | inl here ↦
              ap (λ (e : ℕ). (held_at (set chains c x) e).head) here
              ∙ ap (λ (ch : Chain). ch.head) (get_or-set_same chains c x NO_CHAIN present) ∙ head
              ∙ ap (λ (e : ℕ). (held_at chains e).head) (sym here)
          | inr other ↦ ap (λ (ch : Chain). ch.head) (get_or-set_other chains c d x NO_CHAIN other)
        ]

    -- in the last block
    pub extends_within : 0 < (held_at chains c).len % 1024 → x.head ≡ (held_at chains c).head → x.tail ≡ (held_at chains c).tail
        → Extends next next chains c x (held_at chains c).tail
    extends_within room head tail =
        let m : ℕ = (held_at chains c).len / 1024 in
        let last : block_at next chains c m ≡ (held_at chains c).tail =
        let place : m ≡ ((held_at chains c).len - 1) / 1024 = omega arith in
        ap (block_at next chains c) place ∙ sym (linked.tails c (omega arith)) in
        record {
          present = present;
          len = len;
          tail = tail;
          kept = λ d k h. ap (λ (b : ℕ). block_from next b k) (head_stays head d);
          last = ap (λ (b : ℕ). block_from next b m) (head_stays head c) ∙ last;
          own = λ d k h same. linked.apart d c k m h (omega arith) (same ∙ sym last);
        }

    -- in one more block
    module _ (new : List ℕ) (b : ℕ) (full : (held_at chains c).len % 1024 ≡ 0) (tail : x.tail ≡ b)
        (fresh : (d k : ℕ) → HasBlock chains d k → block_at next chains d k ≢ b) where
      -- the first block of the chain
      begins : (held_at chains c).len ≡ 0 → new ≡ next → x.head ≡ b → Extends next new chains c x b
      unfolding block_from
      begins none same head =
          let m : (held_at chains c).len / 1024 ≡ 0 = omega arith in
          record {
            present = present;
            len = len;
            tail = tail;
            kept = λ d k h.
                elim (cases_eq d c) [
                  | inl here ↦
                      let its : (held_at chains d).len ≡ (held_at chains c).len = ap (λ (e : ℕ). (held_at chains e).len) here in
                      absurd (omega arith)
                  | inr other ↦
                      ap (λ (n : List ℕ). block_from n (held_at (set chains c x) d).head k) same
                      ∙ ap (λ (ch : Chain). block_from next ch.head k) (get_or-set_other chains c d x NO_CHAIN other)
                ];
            last = ap (λ (k : ℕ). block_at new (set chains c x) c k) m
                ∙ ap (λ (ch : Chain). ch.head) (get_or-set_same chains c x NO_CHAIN present) ∙ head;
            own = λ d k h at. absurd (fresh d k h at);
          }

      -- a later block of the chain
      goes_on : 0 < (held_at chains c).len → new ≡ set next (held_at chains c).tail b → x.head ≡ (held_at chains c).head →
          Extends next new chains c x b
      unfolding block_from
      goes_on some is head =
          let q : ℕ = ((held_at chains c).len - 1) / 1024 in
          let m : (held_at chains c).len / 1024 ≡ suc q = omega arith in
          let t : ℕ = (held_at chains c).tail in
          let at : t ≡ block_at next chains c q = linked.tails c some in
          let has : HasBlock chains c q = omega arith in
          let within : t < length next = let a = tail_inside c some in let b = linked.made_within in omega arith in
          let stays : (d k : ℕ) → HasBlock chains d k → block_from (set next t b) (held_at chains d).head k ≡ block_at next chains d k =
          λ d k h. block_from-set next t b (held_at chains d).head k
          (λ i below same.
          let before : HasBlock chains d i = omega arith in
          let own = linked.apart d c i q before has (same ∙ at) in
          let place = own.1 in
          let its : (held_at chains d).len ≡ (held_at chains c).len = ap (λ (e : ℕ). (held_at chains e).len) own.0 in
          omega arith) in
          record {
            present = present;
            len = len;
            tail = tail;
            kept = λ d k h.
                ap (λ (n : List ℕ). block_from n (held_at (set chains c x) d).head k) is
                ∙ ap (λ (h : ℕ). block_from (set next t b) h k) (head_stays head d) ∙ stays d k h;
            last = ap (λ (k : ℕ). block_at new (set chains c x) c k) m
                ∙ ap (λ (n : List ℕ). block_from n (held_at (set chains c x) c).head (suc q)) is
                ∙ ap (λ (h : ℕ). block_from (set next t b) h (suc q)) (head_stays head c)
                ∙ ap (λ (e : ℕ). get_or (set next t b) e 0) (stays c q has ∙ sym at)
                ∙ get_or-set_same next t b 0 within;
            own = λ d k h at. absurd (fresh d k h at);
          }

      -- the first block of the chain, or a later one
      pub extends_begun : ((held_at chains c).len ≡ 0 → new ≡ next) → (0 < (held_at chains c).len → new ≡ set next (held_at chains c).tail b)
          → ((held_at chains c).len ≡ 0 → x.head ≡ b) → (0 < (held_at chains c).len → x.head ≡ (held_at chains c).head)
          → Extends next new chains c x b
      extends_begun first later head_first head_later =
          elim (cases_eq (held_at chains c).len 0) [
            | inl none ↦ begins none (first none) (head_first none)
            | inr some ↦ let some : 0 < (held_at chains c).len = omega arith in goes_on some (later some) (head_later some)
          ]

    -- in one more block, as the code links it
    pub extends_linked : (new : List ℕ) (b : ℕ) → (held_at chains c).len % 1024 ≡ 0 → x.tail ≡ b
        → ((d k : ℕ) → HasBlock chains d k → block_at next chains d k ≢ b)
        → (held : Chain) → held ≡ held_at chains c → (held.len ≡ 0 → new ≡ next) → (0 < held.len → new ≡ set next held.tail b)
        → (held.len ≡ 0 → x.head ≡ b) → (0 < held.len → x.head ≡ held.head) → Extends next new chains c x b
    extends_linked new b full tail fresh held is first later head_first head_later =
        let P : Chain → Type 0 = λ h.
        ((h.len ≡ 0 → new ≡ next) × (0 < h.len → new ≡ set next h.tail b)) ×
        ((h.len ≡ 0 → x.head ≡ b) × (0 < h.len → x.head ≡ h.head)) in
        let all : P (held_at chains c) = subst P is ((first, later), (head_first, head_later)) in
        extends_begun new b full tail fresh all.0.0 all.0.1 all.1.0 all.1.1

    -- one more record adds a block where the last one was full
    pub counted-within : 0 < (held_at chains c).len % 1024 → sum_by block_count (set chains c x) ≡ sum_by block_count chains
    counted-within room = let sums = sum_by-set block_count chains c x NO_CHAIN present in omega arith

    -- a full last block takes one block more
    pub counted-begun : (held_at chains c).len % 1024 ≡ 0 → sum_by block_count (set chains c x) ≡ sum_by block_count chains + 1
    counted-begun full = let sums = sum_by-set block_count chains c x NO_CHAIN present in omega arith

-- a link changes no count
pub length-linked : (next new : List ℕ) (held : Chain) (b : ℕ) → (held.len ≡ 0 → new ≡ next) → (0 < held.len → new ≡ set next held.tail b)
    → length new ≡ length next
length-linked next new held b first later =
    elim (cases_eq held.len 0) [
      | inl none ↦ ap length (first none)
      | inr some ↦ ap length (later (omega arith)) ∙ length-set next held.tail b
    ]
