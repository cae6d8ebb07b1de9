-- What a chain without its first block leaves.
use Rattle.std.proofs.Common.{◌≡◌, ◌≢◌, ◌⊎◌, ℕ, suc, ◌+◌, ◌-◌, ◌*◌, ◌/◌, ◌%◌, ◌<◌, List, []}
use Rattle.std.proofs.Common.{length, map, drop, get_or, set, refl, sym, ap, ◌∙◌, subst, inl, inr, arith}
use Rattle.std.proofs.lemmas.Bool.{cases_eq}
use Rattle.std.proofs.lemmas.List.{get_or-set_same, get_or-set_other, get_or-map, length-set}
use Rattle.std.specs.List.{sum_by}
use Rattle.std.proofs.lemmas.List.Sums.{sum_by-set}
use Rattle.pthash.specs.Order.{numbers_below}
use Rattle.pthash.specs.declared.Record.{Record}
use Rattle.block_pool.specs.declared.blocks.Chain.{Chain}
use Rattle.block_pool.specs.Linking.{NO_RECORD, NO_CHAIN, held_at, block_from, place_in, records_of}
use Rattle.block_pool.specs.Layout.{block_count, block_at, HasBlock, IsLinked}
use Rattle.block_pool.proofs.Made.{made_same, drop-made, map-set_others}
use Rattle.block_pool.proofs.Links.{block_from-next}

-- a chain has lost its first block
pub record Drops (next : List ℕ) (chains : List Chain) (c : ℕ) (x : Chain) : Type 0 where
  pub present : c < length chains
  pub some : 0 < (held_at chains c).len
  pub head : x.head ≡ get_or next (held_at chains c).head 0
  pub tail : x.tail ≡ (held_at chains c).tail
  pub len : x.len ≡ (held_at chains c).len - 1024

module _ (next : List ℕ) (chains : List Chain) (c : ℕ) (x : Chain) (drops : Drops next chains c x) where
  -- the chains with the changed one
  abbrev after : List Chain
  after = set chains c x

  -- the chain itself
  at_same : held_at after c ≡ x
  at_same = get_or-set_same chains c x NO_CHAIN drops.present

  -- another chain
  at_other : (d : ℕ) → d ≢ c → held_at after d ≡ held_at chains d
  at_other d other = get_or-set_other chains c d x NO_CHAIN other

  -- a block of the chain stood one place later
  block_later : (k : ℕ) → block_at next after c k ≡ block_at next chains c (suc k)
  block_later k =
      ap (λ (ch : Chain). block_from next ch.head k) at_same ∙ ap (λ (h : ℕ). block_from next h k) drops.head
      ∙ block_from-next next (held_at chains c).head k

  -- a block of another chain stands where it stood
  block_same : (d k : ℕ) → d ≢ c → block_at next after d k ≡ block_at next chains d k
  block_same d k other = ap (λ (ch : Chain). block_from next ch.head k) (at_other d other)

  -- where a block of the chains stood
  pub record Stood (d k : ℕ) : Type 0 where
    pub place : ℕ
    pub has : HasBlock chains d place
    pub same : block_at next after d k ≡ block_at next chains d place
    pub moved : ((d ≡ c) × (place ≡ suc k)) ⊎ ((d ≢ c) × (place ≡ k))

  -- each block of the chains stood at one place
  stood : (d k : ℕ) → HasBlock after d k → Stood d k
  stood d k has =
      elim (cases_eq d c) [
        | inl here ↦
            let at : held_at after d ≡ x = ap (held_at after) here ∙ at_same in
            let within : k * 1024 < x.len = subst (λ (ch : Chain). k * 1024 < ch.len) at has in
            let long = drops.len in
            let before : HasBlock chains c (suc k) = omega arith in
            record {
              place = suc k;
              has = subst (λ (e : ℕ). HasBlock chains e (suc k)) (sym here) before;
              same = ap (λ (e : ℕ). block_at next after e k) here ∙ block_later k ∙ ap (λ (e : ℕ). block_at next chains e (suc k)) (sym here);
              moved = inl (here, refl);
            }
        | inr other ↦
            record {
              place = k;
              has = subst (λ (ch : Chain). k * 1024 < ch.len) (at_other d other) has;
              same = block_same d k other;
              moved = inr (other, refl);
            }
      ]

  -- the last block of each chain
  tails : ((d : ℕ) → 0 < (held_at chains d).len → (held_at chains d).tail ≡ block_at next chains d (((held_at chains d).len - 1) / 1024))
      → (d : ℕ) → 0 < (held_at after d).len → (held_at after d).tail ≡ block_at next after d (((held_at after d).len - 1) / 1024)
  tails old d some =
      elim (cases_eq d c) [
        | inl here ↦
            let P : ℕ → Type 0 = λ e. (held_at after e).tail ≡ block_at next after e (((held_at after e).len - 1) / 1024) in
            let long : (held_at after c).len ≡ (held_at chains c).len - 1024 = ap (λ (ch : Chain). ch.len) at_same ∙ drops.len in
            let left : 0 < (held_at after c).len = subst (λ (e : ℕ). 0 < (held_at after e).len) here some in
            let place : ((held_at chains c).len - 1) / 1024 ≡ suc (((held_at after c).len - 1) / 1024) = omega arith in
            let at_c : P c =
            ap (λ (ch : Chain). ch.tail) at_same ∙ drops.tail ∙ old c drops.some ∙ ap (block_at next chains c) place
            ∙ sym (block_later (((held_at after c).len - 1) / 1024)) in
            subst P (sym here) at_c
        | inr other ↦
            let long : (held_at after d).len ≡ (held_at chains d).len = ap (λ (ch : Chain). ch.len) (at_other d other) in
            let last : ℕ = ((held_at chains d).len - 1) / 1024 in
            ap (λ (ch : Chain). ch.tail) (at_other d other) ∙ old d (omega arith) ∙ sym (block_same d last other)
            ∙ ap (λ (n : ℕ). block_at next after d ((n - 1) / 1024)) (sym long)
      ]

  -- the chains stay linked, and the block is spare
  module _ (spare : List ℕ) (count made : ℕ) (old : IsLinked next spare count made chains) where
    -- the first block of the chain
    abbrev block : ℕ
    block = (held_at chains c).head

    -- the spare blocks with this one
    abbrev spares : List ℕ
    spares = set spare count block

    -- the chain has a first block
    first : HasBlock chains c 0
    first = drops.some

    -- which is where its head leads
    first_is : block_at next chains c 0 ≡ block
    unfolding block_from
    first_is = refl

    -- the blocks of all chains
    fewer : sum_by block_count after + 1 ≡ sum_by block_count chains
    fewer =
        let sums = sum_by-set block_count chains c x NO_CHAIN drops.present in
        let some = drops.some in
        let long = drops.len in
        omega arith

    -- there is room for one more spare block
    pub room-dropped : count < length spare
    room-dropped =
        let counted = old.counted in
        let room = old.room in
        let within = old.made_within in
        omega (arith, fewer)

    -- a spare block is the one that was dropped, or was spare
    spare_at : (k : ℕ) → k < count + 1 → ((k ≡ count) × (get_or spares k 0 ≡ block)) ⊎ ((k < count) × (get_or spares k 0 ≡ get_or spare k 0))
    spare_at k within =
        elim (cases_eq k count) [
          | inl last ↦ inl (last, ap (λ (i : ℕ). get_or spares i 0) last ∙ get_or-set_same spare count block 0 room-dropped)
          | inr before ↦ inr (omega arith, get_or-set_other spare count k block 0 before)
        ]

    -- the chains stay linked, and the block is spare
    pub linked-dropped : IsLinked next spares (count + 1) made after
    linked-dropped =
        record {
          most = old.most;
          room = length-set spare count block ∙ old.room;
          made_within = old.made_within;
          counted = let counted = old.counted in omega (arith, fewer);
          inside = λ d k h. let at = stood d k h in let before = old.inside d at.place at.has in let same = at.same in omega arith;
          spare_inside = λ k h. elim (spare_at k h) [
            | inl last ↦ let before = old.inside c 0 first in let same = last.1 in omega (arith, first_is)
            | inr earlier ↦ let before = old.spare_inside k earlier.0 in let same = earlier.1 in omega arith
          ];
          apart = λ d e j k h i same.
              let one = stood d j h in
              let two = stood e k i in
              let was = old.apart d e one.place two.place one.has two.has (sym one.same ∙ same ∙ two.same) in
              let places = was.1 in (
                was.0,
                elim one.moved [
                  | inl here ↦ elim two.moved [
                    | inl there ↦ let p = here.1 in let q = there.1 in omega arith
                    | inr there ↦ absurd (there.0 (sym was.0 ∙ here.0))
                  ]
                  | inr here ↦ elim two.moved [
                    | inl there ↦ absurd (here.0 (was.0 ∙ there.0))
                    | inr there ↦ let p = here.1 in let q = there.1 in omega arith
                  ]
                ],
              );
          spare_apart = λ d j k h below same.
              let one = stood d j h in
              elim (spare_at k below) [
                | inl last ↦
                    let was = old.apart d c one.place 0 one.has first (sym one.same ∙ same ∙ last.1 ∙ sym first_is) in
                    let none = was.1 in
                    elim one.moved [
                      | inl here ↦ let p = here.1 in omega arith
                      | inr here ↦ here.0 was.0
                    ]
                | inr earlier ↦ old.spare_apart d one.place k one.has earlier.0 (sym one.same ∙ same ∙ earlier.1)
              ];
          spares_differ = λ j k h i same.
              elim (spare_at j h) [
                | inl last ↦ elim (spare_at k i) [
                  | inl also ↦ last.0 ∙ sym also.0
                  | inr earlier ↦ absurd (old.spare_apart c 0 k first earlier.0 (first_is ∙ sym last.1 ∙ same ∙ earlier.1))
                ]
                | inr earlier ↦ elim (spare_at k i) [
                  | inl last ↦ absurd (old.spare_apart c 0 j first earlier.0 (first_is ∙ sym last.1 ∙ sym same ∙ earlier.1))
                  | inr also ↦ old.spares_differ j k earlier.0 also.0 (sym earlier.1 ∙ same ∙ also.1)
                ]
              ];
          tails = tails old.tails;
        }

  -- the chain has lost the records of one block
  pub view-dropped : (records : List Record)
      → map (records_of records next) after
      ≡ set (map (records_of records next) chains) c (drop 1024 (get_or (map (records_of records next) chains) c []))
  unfolding records_of
  view-dropped records =
      let f : Chain → List Record = records_of records next in
      let length_c : ℕ = (held_at chains c).len in
      let was : ℕ → Record = λ i. get_or records (place_in next (held_at chains c) i) NO_RECORD in
      let now : ℕ → Record = λ i. get_or records (place_in next x i) NO_RECORD in
      let later : (i : ℕ) → now i ≡ was (1024 + i) =
      λ i.
      let q : suc (i / 1024) ≡ (1024 + i) / 1024 = omega arith in
      let r : i % 1024 ≡ (1024 + i) % 1024 = omega arith in
      let block : block_from next x.head (i / 1024) ≡ block_from next (held_at chains c).head ((1024 + i) / 1024) =
      ap (λ (h : ℕ). block_from next h (i / 1024)) drops.head ∙ block_from-next next (held_at chains c).head (i / 1024)
      ∙ ap (block_from next (held_at chains c).head) q in
      ap (λ (b : ℕ). get_or records (b * 1024 + i % 1024) NO_RECORD) block
      ∙ ap (λ (o : ℕ). get_or records (block_from next (held_at chains c).head ((1024 + i) / 1024) * 1024 + o) NO_RECORD) r in
      let own : map now (numbers_below x.len) ≡ drop 1024 (get_or (map f chains) c []) =
      ap (λ (n : ℕ). map now (numbers_below n)) drops.len
      ∙ made_same NO_RECORD now (λ i. was (1024 + i)) (length_c - 1024) (λ i h. later i)
      ∙ sym (drop-made NO_RECORD was 1024 length_c)
      ∙ ap (drop 1024) (sym (get_or-map f chains c NO_CHAIN [] drops.present)) in
      map-set_others f f chains c x NO_CHAIN (drop 1024 (get_or (map f chains) c [])) drops.present own (λ d h other. refl)
