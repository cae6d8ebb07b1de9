use Rattle.command_words.proofs.Encodings.{encoding_in-some, encoding_in-none}
use Rattle.command_words.proofs.values.read_encoding.Goals as goal

pub returns-in-Some : goal.returns-in-Some
returns-in-Some c = encoding_in-some c.args.text.now c.in-Some.encoding c.in-Some.ensures

pub returns-in-None : goal.returns-in-None
returns-in-None c = encoding_in-none c.args.text.now c.in-None.ensures
