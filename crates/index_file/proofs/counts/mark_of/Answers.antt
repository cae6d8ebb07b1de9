use Rattle.std.proofs.Common.{arith}
use Rattle.index_file.proofs.Counting.{mark_at-some}
use Rattle.index_file.proofs.counts.mark_of.Goals as goal

pub returns-clause-value : goal.returns-clause-value
returns-clause-value c =
    mark_at-some c.args.version c.args.bytes.now c.args.at c.word_in.result c.word_in-2.result c.requires (omega arith) c.if-version-ne-MARKED.false
    c.word_in.ensures c.word_in-2.ensures
