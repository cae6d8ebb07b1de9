use Rattle.std.proofs.Common.{arith}
use Rattle.index_file.proofs.Whole.{sealed_length}
use Rattle.index_file.proofs.reading.read_held.Goals as goal

pub head_fields-requires : goal.head_fields-requires
head_fields-requires c = (sealed_length c.args.bytes.now c.in_ok-body.body.now (λ i. omega (arith, c.type_inv.bytes i)) c.in_ok-body.ensures).0

pub held_of-requires-clause-head : goal.held_of-requires-clause-head
held_of-requires-clause-head c = (sealed_length c.args.bytes.now c.in_ok-body.body.now (λ i. omega (arith, c.type_inv.bytes i)) c.in_ok-body.ensures).0

pub held_of-requires-clause-most : goal.held_of-requires-clause-most
held_of-requires-clause-most c = (sealed_length c.args.bytes.now c.in_ok-body.body.now (λ i. omega (arith, c.type_inv.bytes i)) c.in_ok-body.ensures).1
