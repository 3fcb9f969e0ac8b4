-- Demand 2 of `pack`: for all fields in range its block is that of the Rust's steps.
use Rattle.std.specs.Prelude.{ℕ, ◌≡◌, List, eqb, length}
use Rattle.lists.specs.Tests.{pick}
use Rattle.bptc_block.specs.declared.Fields.{Fields}
use Rattle.bptc_block.specs.Limits.{InRange}
use Rattle.bptc_block.specs.PackCall.{pack_of, pack_into}
use Rattle.bptc_rust.specs.PBits.{p_list}
use Rattle.bptc_rust.specs.IndexList.{index_list}
use Rattle.bptc_rust.specs.Compressed.{mode1, mode3}

-- the Rust's block of fields that are handed in
unfoldable pub rust_block : ℕ → Fields → List ℕ
rust_block mode f =
    pick (eqb mode 1)
    (mode1 0 f.partition f.ends (p_list 2 f.p) (index_list 3 f.indices)).block
    (mode3 0 f.partition f.ends (p_list 4 f.p) (index_list 2 f.indices)).block

-- fields in range are not declined, and a part of 16 bytes then holds the Rust's block
abbrev pub Packs : Type 0
Packs =
    (mode : ℕ) (f : Fields) (part : List ℕ) → InRange mode f → length part ≡ 16 →
    (pack_of mode f part ≡ 0) × (pack_into mode f part ≡ rust_block mode f)
