-- The numbers of the refusals, in the order in which every call makes its checks. 0 is no refusal.
use Rattle.std.specs.Prelude.{ℕ, ◌≡◌, Result, Ok, Err}
use Rattle.refusals.specs.declared.Refusal.{Refusal}
use Rattle.refusals.specs.declared.Refusal.TheVariants.{PixelPart, BlockPart, Mode, Partition, Channel, PBits, Index, Reserved, OtherMode}

-- the number of a refusal
abbrev pub number_of : Refusal → ℕ
number_of PixelPart = 1
number_of BlockPart = 2
number_of Mode = 3
number_of Partition = 4
number_of Channel = 5
number_of PBits = 6
number_of Index = 7
number_of Reserved = 8
number_of OtherMode = 9

-- the number of an answer: 0 where nothing is declined
abbrev pub declined : Result (Unit {0}) Refusal → ℕ
declined (Ok done) = 0
declined (Err refusal) = number_of refusal

-- no refusal has the number 0
abbrev pub SomeNumber : Type 0
SomeNumber = (r : Refusal) → number_of r ≡ 0 → ⊥

-- and no two have the same
abbrev pub Distinct : Type 0
Distinct = (a b : Refusal) → number_of a ≡ number_of b → a ≡ b
