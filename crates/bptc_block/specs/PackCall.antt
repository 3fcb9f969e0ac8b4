-- The call `pack`: its answer, a refusal's number, and what the lent block part holds afterwards.
use Rattle.std.specs.Prelude.{ℕ, List, eqb, length}
use Rattle.lists.specs.Tests.{pick}
use Rattle.bptc.specs.Mode.{Mode, mode_numbered}
use Rattle.bptc_block.specs.declared.PBits.TheVariants.{Fixed}
use Rattle.bptc_block.specs.declared.Candidate.{Candidate}
use Rattle.bptc_block.specs.declared.Fields.{Fields}
use Rattle.bptc_block.specs.Fields.{block_fields}
use Rattle.bptc_block.specs.Packed.{packed}
use Rattle.bptc_block.specs.Exchange.{compressed}
use Rattle.bptc_block.specs.Refusal.{check_block, check_candidate, check_indices}

-- the candidate among what is handed in: its p-bits come as the plain number
abbrev pub fixed_at : ℕ → Fields → Candidate
fixed_at mode f = record { mode = mode; partition = f.partition; ends = f.ends; p = Fixed f.p }

-- the answer, by checks 2 to 7
unfoldable pub pack_of : ℕ → Fields → List ℕ → ℕ
pack_of mode f block = check_block (length block) (check_candidate (fixed_at mode f) (check_indices mode f.indices 0))

-- the part afterwards: the block, or as it was
unfoldable pub pack_into : ℕ → Fields → List ℕ → List ℕ
pack_into mode f block =
    let m : Mode = mode_numbered mode in
    pick (eqb (pack_of mode f block) 0) (packed m (compressed m (block_fields f))) block
