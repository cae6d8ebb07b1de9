use Rattle.bucket_map.specs.ShapeData.{shape_data}
use Rattle.index_file.proofs.PartitionSteps.{ArePartitions}
use Rattle.index_file.proofs.partitions.partitions_of.Given as goal

abbrev pub invariant-loop-i : goal.invariant-loop-i
invariant-loop-i l = ArePartitions l.bytes l.enc (shape_data l.shape) l.counts l.fn.at l.i l.parts.items l.place
