use Rattle.std.proofs.Common.{ℕ, ◌+◌, sym, subst, arith, Option}
use Rattle.bucket_map.proofs.Neighbours.{IsLeastOf, least-more}
use Rattle.bucket_map.proofs.LeastClash.{none-is, some-clash, some-least}
use Rattle.bucket_map.proofs.clash.least_repeat.Goals as goal

pub loop-k-preserved : goal.loop-k-preserved
loop-k-preserved c =
    let P : Option (ℕ × ℕ) → Type 0 = λ least. IsLeastOf c.args.records.now (c.loop-k.k + 1) least in
    record {
      near = omega arith;
      least = subst P (sym c.with_neighbours-least.ensures) (least-more c.args.records.now c.loop-k.k c.loop-k.least (omega arith) c.loop-k.invariant.least);
    }

pub returns-clause-none : goal.returns-clause-none
returns-clause-none c =
    none-is c.args.records.now c.requires c.loop-k.k c.loop-k.least (omega arith) c.loop-k.invariant.near c.loop-k.invariant.least

pub returns-clause-clash : goal.returns-clause-clash
returns-clause-clash c =
    some-clash c.args.records.now c.requires c.loop-k.k c.loop-k.least c.loop-k.invariant.near (omega arith) c.loop-k.invariant.least

pub returns-clause-least : goal.returns-clause-least
returns-clause-least c =
    λ distinct. some-least c.args.records.now c.requires distinct c.loop-k.k c.loop-k.least c.loop-k.invariant.near (omega arith) c.loop-k.invariant.least
