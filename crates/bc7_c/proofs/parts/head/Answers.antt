-- `bc7_c::parts::head` meets its contract.
use Rattle.bptc.specs.Internal.Colour.{bytes_of}
use Rattle.bptc_block.specs.Answers.{reading_of}
use Rattle.bc7_c.proofs.PartBytes.{head_listed}
use borrow.Author.Rules.{rules}
use Rattle.bc7_c.proofs.parts.head.Goals as goal

pub returns : goal.returns
unfolding bytes_of
returns c = head_listed (reading_of c.args.reading.mode c.args.reading.fields) (search rules)
