use Rattle.index_file.proofs.Written.{three_pieces}
use Rattle.index_file.proofs.writing.put_head.Goals as goal

pub returns-clause-ok : goal.returns-clause-ok
returns-clause-ok c =
    three_pieces c.args.out.now.items c.extend_from_slice.new.self.items c.extend_from_slice-2.new.self.items c.put_numbers.new.out.items _ _ _
    c.in_ok-extend_from_slice.ensures.items c.in_ok-extend_from_slice-2.ensures.items c.in_ok-put_numbers.ensures.ok
