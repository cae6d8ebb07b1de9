-- What a look at a chain shows, and what one more record there leaves.
use Rattle.std.proofs.Common.{◌≡◌, ◌≢◌, ℕ, ◌+◌, ◌-◌, ◌*◌, ◌/◌, ◌%◌, ◌<◌, ◌≤◌, List}
use Rattle.std.proofs.Common.{◌∷◌, [], ◌++◌, length, map}
use Rattle.std.proofs.Common.{get_or, set, replicate, refl, sym, ap, ◌∙◌, subst, arith}
use Rattle.std.proofs.lemmas.List.{get_or_read, get_or_append_left, length-set, length-append, length-replicate}
use Rattle.pthash.specs.declared.Record.{Record}
use Rattle.block_pool.specs.declared.blocks.Chain.{Chain}
use Rattle.block_pool.specs.declared.blocks.Pool.TheInside.{Inside}
use Rattle.block_pool.specs.Chains.{PoolData, chain_at, with_chain, free_blocks}
use Rattle.block_pool.specs.Linking.{NO_RECORD, NO_CHAIN, held_at, records_of, IsBegun}
use Rattle.block_pool.specs.Layout.{block_at, HasBlock, IsLinked, IsSound, pool_in}
use Rattle.block_pool.proofs.Begun.{tail_inside, extends_within, extends_linked, length-linked, counted-within, counted-begun}
use Rattle.block_pool.proofs.Extended.{Extends, linked-extended}
use Rattle.block_pool.proofs.Views.{length-chains, length-chain_at, free-is, view-pushed}

-- a chain of a sound pool, as it was read
pub record Looks (s : Inside) (p : PoolData) (chain : ℕ) (held : Chain) : Type 0 where
  pub sound : IsSound s
  pub view : pool_in s ≡ p
  pub present : chain < length s.chains.items
  pub at : held ≡ held_at s.chains.items chain

-- a look at a chain that there is
pub looks : (s : Inside) → IsSound s → (p : PoolData) → pool_in s ≡ p → (chain : ℕ) → chain < length p.chains
    → (held : Chain) → held ≡ get_or s.chains.items chain held → Looks s p chain held
looks s sound p view chain asked held read =
    let count = length-chains s.records.items s.next.items s.chains.items p view in
    let present : chain < length s.chains.items = omega arith in
    record {
      sound = sound;
      view = view;
      present = present;
      at = get_or_read s.chains.items chain held present read NO_CHAIN;
    }

module _ (s : Inside) (p : PoolData) (chain : ℕ) (held : Chain) (look : Looks s p chain held) where
  -- the links of the pool
  abbrev l : IsLinked s.next.items s.spare.items s.spare_count s.made s.chains.items
  l = look.sound.linked

  -- the length that was read is that of the chain in the pool
  pub len-read : held.len ≡ (held_at s.chains.items chain).len
  len-read = ap (λ (ch : Chain). ch.len) look.at

  -- the length that was read is that of the list of records
  pub length-seen : length (chain_at p chain) ≡ held.len
  length-seen = length-chain_at s.records.items s.next.items s.chains.items p look.view chain look.present ∙ sym len-read

  -- the free blocks are those that were never in use, and the spare ones
  pub free-seen : free_blocks p ≡ length s.next.items - s.made + s.spare_count
  free-seen = free-is s.records.items s.next.items s.chains.items p look.view s.spare.items s.spare_count s.made l

  -- the last block of the chain was in use
  pub tail_made : 0 < held.len → held.tail < s.made
  tail_made some =
      let tail : held.tail ≡ (held_at s.chains.items chain).tail = ap (λ (ch : Chain). ch.tail) look.at in
      let below = tail_inside s.next.items s.spare.items s.spare_count s.made s.chains.items l chain (omega (arith, len-read)) in
      omega arith

  -- a block that no chain has and that is not among the spare ones that are left
  pub record IsFresh (block fewer more : ℕ) : Type 0 where
    pub below : block < more
    pub fresh : (d k : ℕ) → HasBlock s.chains.items d k → block_at s.next.items s.chains.items d k ≢ block
    pub apart : (k : ℕ) → k < fewer → get_or s.spare.items k 0 ≢ block

  -- the last spare block
  pub spare_fresh : (block : ℕ) → 0 < s.spare_count → block ≡ get_or s.spare.items (s.spare_count - 1) block →
      IsFresh block (s.spare_count - 1) s.made
  spare_fresh block some read =
      let last : block ≡ get_or s.spare.items (s.spare_count - 1) 0 =
      get_or_read s.spare.items (s.spare_count - 1) block (omega (arith, l.counted, l.made_within, l.room)) read 0 in
      record {
        below = omega (arith, l.spare_inside (s.spare_count - 1) (omega arith), last);
        fresh = λ d k h same. l.spare_apart d k (s.spare_count - 1) h (omega arith) (same ∙ last);
        apart = λ k h same. omega (arith, l.spares_differ k (s.spare_count - 1) (omega arith) (omega arith) (same ∙ last), h);
      }

  -- the block behind those that were in use
  pub made_fresh : IsFresh s.made s.spare_count (s.made + 1)
  made_fresh =
      record {
        below = omega arith;
        fresh = λ d k h same. omega (arith, l.inside d k h, same);
        apart = λ k h same. omega (arith, l.spare_inside k h, same);
      }

  -- a record more in the last block
  module _ (room : 0 < held.len % 1024) where
    -- the chain with the record
    abbrev here : Chain
    here = record { head = held.head; tail = held.tail; len = held.len + 1 }

    -- it is longer by one
    here_len : here.len ≡ (held_at s.chains.items chain).len + 1
    here_len = ap (λ (n : ℕ). n + 1) len-read

    -- its last block has room
    here_room : 0 < (held_at s.chains.items chain).len % 1024
    here_room = subst (λ (n : ℕ). 0 < n % 1024) len-read room

    -- all else is where it was
    extends_here : Extends s.next.items s.next.items s.chains.items chain here (held_at s.chains.items chain).tail
    extends_here =
        extends_within s.next.items s.spare.items s.spare_count s.made s.chains.items l chain here look.present here_len here_room
        (ap (λ (ch : Chain). ch.head) look.at) (ap (λ (ch : Chain). ch.tail) look.at)

    -- the chains stay linked
    pub linked-here : IsLinked s.next.items s.spare.items s.spare_count s.made (set s.chains.items chain here)
    linked-here =
        let chains : List Chain = s.chains.items in
        let m : ℕ = (held_at chains chain).len / 1024 in
        let counted = counted-within s.next.items s.spare.items s.spare_count s.made chains l chain here look.present here_len here_room in
        let before = l.counted in
        let inside = l.made_within in
        let below = tail_inside s.next.items s.spare.items s.spare_count s.made chains l chain (omega (arith, here_room)) in
        linked-extended s.next.items s.next.items chains chain here (held_at chains chain).tail extends_here
        s.spare.items s.spare_count s.spare_count s.made s.made l refl (omega arith) (omega arith) below (omega arith)
        (λ k h same. l.spare_apart chain m k (omega (arith, here_room)) h
        (sym (extends_here.kept chain m (omega (arith, here_room))) ∙ extends_here.last ∙ sym same))
        (omega arith)

    -- the record stands at the end of its chain
    pub view-here : (item : Record) → ◌≡◌ {A = PoolData}
        (record {
          blocks = length s.next.items;
          chains = map (records_of (set s.records.items (held.tail * 1024 + held.len % 1024) item) s.next.items)
              (set s.chains.items chain here);
        })
        (with_chain p chain (chain_at p chain ++ item ∷ []))
    view-here item =
        let chains : List Chain = s.chains.items in
        let tail : held.tail ≡ (held_at chains chain).tail = ap (λ (ch : Chain). ch.tail) look.at in
        let below = tail_made (omega (arith, room)) in
        let stored = look.sound.stored in
        view-pushed s.records.items s.next.items chains p look.view s.next.items chain here (held_at chains chain).tail extends_here refl
        s.records.items (held.tail * 1024 + held.len % 1024) s.made item l.inside (λ i h. refl) (omega (arith, len-read)) (omega arith)

  -- a record more in a block that no chain had
  module _ (block : ℕ) (new : List ℕ) (longer : Chain) (begun : IsBegun held block s.next.items new longer) (full : held.len % 1024 ≡ 0)
      (fresh : (d k : ℕ) → HasBlock s.chains.items d k → block_at s.next.items s.chains.items d k ≢ block) where
    -- the chain is longer by one
    begun_len : longer.len ≡ (held_at s.chains.items chain).len + 1
    begun_len = begun.len ∙ ap (λ (n : ℕ). n + 1) len-read

    -- its blocks were full
    begun_full : (held_at s.chains.items chain).len % 1024 ≡ 0
    begun_full = ap (λ (n : ℕ). n % 1024) (sym len-read) ∙ full

    -- all else is where it was
    extends_begun : Extends s.next.items new s.chains.items chain longer block
    extends_begun =
        extends_linked s.next.items s.spare.items s.spare_count s.made s.chains.items l chain longer look.present begun_len
        new block begun_full begun.tail fresh held look.at begun.first_link begun.later_link begun.first_head begun.later_head

    -- a link changes no count
    pub same_length : length new ≡ length s.next.items
    same_length = length-linked s.next.items new held block begun.first_link begun.later_link

    -- the chains stay linked
    pub linked-begun : (fewer more : ℕ) → s.made ≤ more → more ≤ length s.next.items → block < more → fewer ≤ s.spare_count
        → ((k : ℕ) → k < fewer → get_or s.spare.items k 0 ≢ block) → s.made + fewer + 1 ≡ more + s.spare_count
        → IsLinked new s.spare.items fewer more (set s.chains.items chain longer)
    linked-begun fewer more grows within below falls apart counts =
        let counted = counted-begun s.next.items s.spare.items s.spare_count s.made s.chains.items l chain longer look.present begun_len begun_full in
        let before = l.counted in
        linked-extended s.next.items new s.chains.items chain longer block extends_begun s.spare.items s.spare_count fewer s.made more l same_length
        grows within below falls apart (omega arith)

    -- the record stands at the end of its chain
    pub view-begun : (grown : List Record) (item : Record) →
        ((i : ℕ) → i < s.made * 1024 → get_or grown i NO_RECORD ≡ get_or s.records.items i NO_RECORD)
        → block * 1024 < length grown
        → ◌≡◌ {A = PoolData}
        (record { blocks = length new; chains = map (records_of (set grown (block * 1024) item) new) (set s.chains.items chain longer) })
        (with_chain p chain (chain_at p chain ++ item ∷ []))
    view-begun grown item kept room =
        view-pushed s.records.items s.next.items s.chains.items p look.view new chain longer block extends_begun same_length
        grown (block * 1024) s.made item l.inside kept (omega (arith, begun_full)) room

-- a change of one chain leaves as many chains
pub length-changed : (chains : List Chain) (c : ℕ) (x : Chain) → 1 ≤ length chains → length chains ≤ 4096
    → (1 ≤ length (set chains c x)) × (length (set chains c x) ≤ 4096)
length-changed chains c x some most = let same = length-set chains c x in (omega arith, omega arith)

-- one more block at the end of the region makes it longer
pub length-grown : (records grown : List Record) → grown ≡ records ++ replicate 1024 NO_RECORD → length grown ≡ length records + 1024
length-grown records grown is =
    ap length is ∙ length-append records (replicate 1024 NO_RECORD)
    ∙ ap (λ (n : ℕ). length records + n) (length-replicate 1024 NO_RECORD)

-- the records before it stay
pub get_or-grown : (records grown : List Record) → grown ≡ records ++ replicate 1024 NO_RECORD → (i : ℕ) → i < length records
    → get_or grown i NO_RECORD ≡ get_or records i NO_RECORD
get_or-grown records grown is i within =
    ap (λ (xs : List Record). get_or xs i NO_RECORD) is ∙ get_or_append_left records (replicate 1024 NO_RECORD) NO_RECORD i within
