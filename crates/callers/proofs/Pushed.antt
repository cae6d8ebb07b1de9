-- Records that are pushed one after another to one chain.
use Rattle.std.proofs.Common.{◌≡◌, ℕ, ◌+◌, ◌%◌, ◌<◌, ◌≤◌, List, [], ◌∷◌, ◌++◌}
use Rattle.std.proofs.Common.{length, set, sym, ap, ◌∙◌, subst, append_assoc, inl, inr, arith}
use Rattle.std.proofs.lemmas.Bool.{cases_eq}
use Rattle.std.proofs.lemmas.List.{get_or-set_same, set-set, length-append}
use Rattle.std.proofs.lemmas.List.Sums.{sum_by-set}
use Rattle.pthash.specs.declared.Record.{Record}
use Rattle.block_pool.specs.Chains.{PoolData, chain_at, with_chain, blocks_of, held_blocks, free_blocks, HasNoRoom}

-- the pool with these chains
abbrev with_all : PoolData → List (List Record) → PoolData
with_all pool chains = record { blocks = pool.blocks; chains = chains }

-- one more record
pub pushed-more : (old before after : PoolData) (c : ℕ) (xs : List Record) (r : Record) → c < length old.chains
    → before ≡ with_chain old c (chain_at old c ++ xs) → after ≡ with_chain before c (chain_at before c ++ r ∷ [])
    → after ≡ with_chain old c (chain_at old c ++ (xs ++ r ∷ []))
pushed-more old before after c xs r present was is =
    let ys : List Record = chain_at old c ++ xs in
    is
    ∙ ap (λ (p : PoolData). with_chain p c (chain_at p c ++ r ∷ [])) was
    ∙ ap (λ (zs : List Record). with_all old (set (set old.chains c ys) c (zs ++ r ∷ []))) (get_or-set_same old.chains c ys [] present)
    ∙ ap (λ (cs : List (List Record)). with_all old cs) (set-set old.chains c ys (ys ++ r ∷ []))
    ∙ ap (λ (zs : List Record). with_all old (set old.chains c zs)) (append_assoc (chain_at old c) xs (r ∷ []))

-- where there was room for one more record, the chains still take no more blocks than there are
pub pushed-within : (before after : PoolData) (c : ℕ) (r : Record) → c < length before.chains → held_blocks before ≤ before.blocks
    → (HasNoRoom before c → ⊥) → after ≡ with_chain before c (chain_at before c ++ r ∷ []) → held_blocks after ≤ after.blocks
pushed-within before after c r present within room is =
    let xs : List Record = chain_at before c in
    let sums = sum_by-set blocks_of before.chains c (xs ++ r ∷ []) [] present in
    let more : length (xs ++ r ∷ []) ≡ length xs + 1 = length-append xs (r ∷ []) in
    let fits : held_blocks (with_chain before c (xs ++ r ∷ [])) ≤ before.blocks =
    elim (cases_eq (length xs % 1024) 0) [
      | inl full ↦ elim (cases_eq (free_blocks before) 0) [
        | inl none ↦ absurd (room (none, full))
        | inr some ↦ omega arith
      ]
      | inr rest ↦ omega arith
    ] in
    subst (λ (p : PoolData). held_blocks p ≤ p.blocks) (sym is) fits
