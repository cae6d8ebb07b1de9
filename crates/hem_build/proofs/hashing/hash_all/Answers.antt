use Rattle.std.proofs.Common.{ℕ, sym, ap, ◌∙◌, arith}
use Rattle.pthash.specs.RecordLaws.{record_at_place}
use Rattle.build_outcome.specs.Clash.{key_at}
use Rattle.hem_build.proofs.RecordShares.{all_hashed}
use Rattle.hem_build.proofs.hashing.hash_all.Goals as goal

pub returns : goal.returns
returns g c =
    all_hashed c.args.keys.now c.args.seed c.for_each_chunk_mut.new.s (c.for_each_chunk_mut.auto.s ∙ c.requires.room)
    (λ i d within.
    let at = (c.for_each_chunk_mut.ensures.by_index i d (omega (arith, c.requires.room))).1 in
    sym at.new_element ∙ at.call.each at.offset d at.offset_in_chunk
    ∙ ap (λ (n : ℕ). record_at_place (key_at c.args.keys.now n) c.args.seed n) at.start_plus_offset)
