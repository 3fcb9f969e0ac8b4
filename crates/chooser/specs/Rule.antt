-- The rule of choosing: what an empty chooser holds, and which of two blocks is kept.
use Rattle.std.specs.Prelude.{leb, replicate}
use Rattle.lists.specs.Tests.{pick}
use Rattle.bptc_block.specs.Compressed.{Compressed}

-- Compressed::invalid: sixteen zero bytes with the largest error
abbrev pub invalid : Compressed
invalid = record { block = replicate 16 0; error = 4294967295 }

-- Compressed::better: the earlier at equal error
abbrev pub better : Compressed → Compressed → Compressed
better a b = pick (leb a.error b.error) a b
