-- `bits::stream::BitStream::write_endpoints_rgb` meets its contract.
use borrow.Author.Rules.{rules}
use Rattle.bptc_block.proofs.Front.{channel_steps}
use Rattle.bits.proofs.stream.BitStream.write_endpoints_rgb.Goals as goal

pub returns-clause-same : goal.returns-clause-same
returns-clause-same c =
    channel_steps c.args.width.bits c.args.self.data c.args.self.bits c.args.ends (search rules)
    c.write_channels-reds.result.data c.write_channels-reds.result.bits
    c.write_channels-reds.ensures.same c.write_channels-reds.ensures.place c.write_channels-greens.ensures.same c.write_channels-greens.ensures.place c.write_channels.ensures.same
