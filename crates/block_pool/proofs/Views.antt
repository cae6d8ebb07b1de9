-- What the fields of a pool say of the chains that its users see.
use Rattle.std.proofs.Common.{◌≡◌, ◌≢◌, ℕ, zero, suc, ◌+◌, ◌-◌, ◌*◌, ◌/◌, ◌%◌, ◌<◌, ◌≤◌, min, List, []}
use Rattle.std.proofs.Common.{◌∷◌, ◌++◌, length, map, take, drop, get_or, set, replicate, refl, sym, ap, ◌∙◌, arith}
use Rattle.std.proofs.lemmas.List.{length-map, get_or-map, get_or-set_same, get_or-set_other}
use Rattle.std.proofs.lemmas.List.Sums.{sum_by-cons}
use Rattle.std.specs.List.{sum_by}
use Rattle.std.specs.Int.{div_ceil}
use Rattle.pthash.specs.Order.{numbers_below}
use Rattle.pthash.specs.declared.Record.{Record}
use Rattle.block_pool.specs.declared.blocks.Chain.{Chain}
use Rattle.block_pool.specs.Chains.{PoolData, chain_at, with_chain, empty_pool, blocks_of, held_blocks, free_blocks}
use Rattle.block_pool.specs.Linking.{NO_RECORD, NO_CHAIN, held_at, block_from, place_in, records_of}
use Rattle.block_pool.specs.Layout.{block_count, block_at, HasBlock, IsLinked}
use Rattle.block_pool.proofs.Made.{length-made, made_same, take-made, part-made}
use Rattle.block_pool.proofs.Extended.{Extends, view-extended}
use Rattle.block_pool.proofs.Dropped.{Drops, view-dropped}

-- a chain has as many records as it counts
length-records_of : (records : List Record) (next : List ℕ) (chain : Chain) → length (records_of records next chain) ≡ chain.len
unfolding records_of
length-records_of records next chain = length-made (λ i. get_or records (place_in next chain i) NO_RECORD) chain.len

-- the blocks of all chains
held_sum : (records : List Record) (next : List ℕ) (chains : List Chain) →
    sum_by blocks_of (map (records_of records next) chains) ≡ sum_by block_count chains
held_sum records next [] = refl
held_sum records next (x ∷ xs) =
    let f : Chain → List Record = records_of records next in
    let one : blocks_of (f x) ≡ block_count x = ap (λ (n : ℕ). div_ceil n 1024) (length-records_of records next x) in
    sum_by-cons blocks_of (f x) (map f xs) ∙ ap (λ (n : ℕ). n + sum_by blocks_of (map f xs)) one
    ∙ ap (λ (n : ℕ). block_count x + n) (held_sum records next xs) ∙ sym (sum_by-cons block_count x xs)

-- pools of the same parts are the same
pool_same : (m n : ℕ) (xs ys : List (List Record)) → m ≡ n → xs ≡ ys
    → ◌≡◌ {A = PoolData} (record { blocks = m; chains = xs }) (record { blocks = n; chains = ys })
pool_same m n xs ys same_blocks same_chains =
    let one : PoolData = record { blocks = n; chains = ys } in
    ap (λ (k : ℕ). let q : PoolData = record { blocks = k; chains = xs } in q) same_blocks
    ∙ ap (λ (zs : List (List Record)). let q : PoolData = record { blocks = n; chains = zs } in q) same_chains

-- chains without records have none
pub map-empty : (records : List Record) (next : List ℕ) (n : ℕ) → map (records_of records next) (replicate n NO_CHAIN) ≡ replicate n []
unfolding records_of numbers_below
map-empty records next zero = refl
map-empty records next (suc n) = ap (λ (xs : List (List Record)). [] ∷ xs) (map-empty records next n)

-- a new pool
pub view-new : (records : List Record) (next : List ℕ) (chains : List Chain) (blocks count : ℕ) → length next ≡ blocks →
    chains ≡ replicate count NO_CHAIN
    → ◌≡◌ {A = PoolData} (record { blocks = length next; chains = map (records_of records next) chains }) (empty_pool blocks count)
view-new records next chains blocks count len are =
    pool_same (length next) blocks (map (records_of records next) chains) (replicate count []) len
    (ap (map (records_of records next)) are ∙ map-empty records next count)

module _ (records : List Record) (next : List ℕ) (chains : List Chain) (p : PoolData)
    (is : ◌≡◌ {A = PoolData} (record { blocks = length next; chains = map (records_of records next) chains }) p) where
  -- the number of blocks
  pub blocks-is : p.blocks ≡ length next
  blocks-is = ap (λ (q : PoolData). q.blocks) (sym is)

  -- the number of chains
  pub length-chains : length p.chains ≡ length chains
  length-chains = ap (λ (q : PoolData). length q.chains) (sym is) ∙ length-map chains (records_of records next)

  -- the length of a chain
  pub length-chain_at : (c : ℕ) → c < length chains → length (chain_at p c) ≡ (held_at chains c).len
  length-chain_at c present =
      ap (λ (q : PoolData). length (chain_at q c)) (sym is)
      ∙ ap length (get_or-map (records_of records next) chains c NO_CHAIN [] present)
      ∙ length-records_of records next (held_at chains c)

  -- the blocks that the chains take
  pub held_blocks-is : held_blocks p ≡ sum_by block_count chains
  held_blocks-is = ap held_blocks (sym is) ∙ held_sum records next chains

  -- the blocks that are free
  pub free-is : (spare : List ℕ) (count made : ℕ) → IsLinked next spare count made chains → free_blocks p ≡ length next - made + count
  free-is spare count made linked =
      let held = held_blocks-is in
      let blocks = blocks-is in
      let counted = linked.counted in
      let within = linked.made_within in
      omega arith

  -- one more record at the end of a chain
  pub view-pushed : (new : List ℕ) (c : ℕ) (x : Chain) (b : ℕ) → Extends next new chains c x b → length new ≡ length next
      → (grown : List Record) (at made : ℕ) (item : Record)
      → ((d k : ℕ) → HasBlock chains d k → block_at next chains d k < made)
      → ((i : ℕ) → i < made * 1024 → get_or grown i NO_RECORD ≡ get_or records i NO_RECORD)
      → at ≡ b * 1024 + (held_at chains c).len % 1024 → at < length grown
      → ◌≡◌ {A = PoolData} (record { blocks = length new; chains = map (records_of (set grown at item) new) (set chains c x) })
      (with_chain p c (chain_at p c ++ item ∷ []))
  view-pushed new c x b extends same_length grown at made item inside kept place room =
      let written : List Record = set grown at item in
      let others : (i : ℕ) → i < made * 1024 → i ≢ b * 1024 + (held_at chains c).len % 1024 →
      get_or written i NO_RECORD ≡ get_or records i NO_RECORD =
      λ i below apart. get_or-set_other grown at i item NO_RECORD (λ same. apart (same ∙ place)) ∙ kept i below in
      let here : get_or written (b * 1024 + (held_at chains c).len % 1024) NO_RECORD ≡ item =
      ap (λ (k : ℕ). get_or written k NO_RECORD) (sym place) ∙ get_or-set_same grown at item NO_RECORD room in
      let all = view-extended next new chains c x b extends records written made item inside others here in
      pool_same (length new) (length next) (map (records_of written new) (set chains c x))
      (set (map (records_of records next) chains) c (get_or (map (records_of records next) chains) c [] ++ item ∷ [])) same_length all
      ∙ ap (λ (q : PoolData). with_chain q c (chain_at q c ++ item ∷ [])) is

  -- a chain without its first block
  pub view-without : (c : ℕ) (x : Chain) → Drops next chains c x
      → ◌≡◌ {A = PoolData} (record { blocks = length next; chains = map (records_of records next) (set chains c x) })
      (with_chain p c (drop 1024 (chain_at p c)))
  view-without c x drops =
      pool_same (length next) (length next) (map (records_of records next) (set chains c x))
      (set (map (records_of records next) chains) c (drop 1024 (get_or (map (records_of records next) chains) c []))) refl
      (view-dropped next chains c x drops records)
      ∙ ap (λ (q : PoolData). with_chain q c (drop 1024 (chain_at q c))) is

  -- the first records of a chain
  pub front-is : (c : ℕ) → c < length chains → (held_at chains c).head * 1024 + min (held_at chains c).len 1024 ≤ length records
      → take (min (held_at chains c).len 1024) (drop ((held_at chains c).head * 1024) records) ≡ take 1024 (chain_at p c)
  unfolding records_of block_from
  front-is c present within =
      let chain : Chain = held_at chains c in
      let n : ℕ = min chain.len 1024 in
      let f : ℕ → Record = λ i. get_or records (place_in next chain i) NO_RECORD in
      let g : ℕ → Record = λ i. get_or records (chain.head * 1024 + i) NO_RECORD in
      let same : (i : ℕ) → i < n → g i ≡ f i =
      λ i h.
      let q : 0 ≡ i / 1024 = omega arith in
      let r : i ≡ i % 1024 = omega arith in
      ap (λ (o : ℕ). get_or records (chain.head * 1024 + o) NO_RECORD) r
      ∙ ap (λ (k : ℕ). get_or records (block_from next chain.head k * 1024 + i % 1024) NO_RECORD) q in
      let count : n ≡ min 1024 chain.len = omega arith in
      part-made NO_RECORD records (chain.head * 1024) n within
      ∙ made_same NO_RECORD g f n same
      ∙ ap (λ (k : ℕ). map f (numbers_below k)) count
      ∙ sym (take-made NO_RECORD f 1024 chain.len)
      ∙ ap (take 1024) (sym (get_or-map (records_of records next) chains c NO_CHAIN [] present))
      ∙ ap (λ (q : PoolData). take 1024 (chain_at q c)) is
