-- What is said of each refusal: its number and why a call declines.
use Rattle.std.specs.Prelude.{ℕ, List, codes}
use Rattle.refusals.specs.declared.Refusal.{Refusal}
use Rattle.refusals.specs.declared.Refusal.TheVariants.{PixelPart, BlockPart, Mode, Partition, Channel, PBits, Index, Reserved, OtherMode}

-- the text of a refusal
abbrev pub refusal_text : Refusal → List ℕ
refusal_text PixelPart = codes "1, the pixel part is not 48 bytes long"
refusal_text BlockPart = codes "2, the block part is not 16 bytes long"
refusal_text Mode = codes "3, the mode is neither 1 nor 3"
refusal_text Partition = codes "4, the partition is above 63"
refusal_text Channel = codes "5, a channel is above 63 in mode 1 or above 127 in mode 3"
refusal_text PBits = codes "6, fixed p-bits are above 3 in mode 1 or above 15 in mode 3"
refusal_text Index = codes "7, an index is above 7 in mode 1 or above 3 in mode 3"
refusal_text Reserved = codes "8, the first byte of the block is 0, which is reserved"
refusal_text OtherMode = codes "9, the block has another mode than 1 and 3"
