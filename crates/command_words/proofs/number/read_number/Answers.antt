use Rattle.command_words.proofs.Numbers.{number_in-good, number_in-low, number_in-high, number_in-none}
use Rattle.command_words.proofs.number.read_number.Goals as goal
use Rattle.command_words.proofs.number.read_number.Goals.{then-n-low-via-then-n-low, then-n-low-via-else-n-low+then-high-n}

pub returns-in_default-clause-value : goal.returns-in_default-clause-value
returns-in_default-clause-value c = number_in-none c.args.low c.args.high c.args.text.now c.in_default.ensures.value

pub returns-then-n-low-clause-value : goal.returns-then-n-low-clause-value
returns-then-n-low-clause-value c =
    elim c.then-n-low.branch [
      | then-n-low-via-then-n-low w ↦ number_in-low c.args.low c.args.high c.in-Some.n c.args.text.now c.in-Some.ensures.value w.if-n-low.true
      | then-n-low-via-else-n-low+then-high-n w ↦ number_in-high c.args.low c.args.high c.in-Some.n c.args.text.now c.in-Some.ensures.value w.if-high-n.true
    ]

pub returns-clause-value : goal.returns-clause-value
returns-clause-value c = number_in-good c.args.low c.args.high c.in-Some.n c.args.text.now c.in-Some.ensures.value c.if-n-low.false c.if-high-n.false
