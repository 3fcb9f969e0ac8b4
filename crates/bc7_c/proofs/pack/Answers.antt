-- `bc7_c::pack` meets its contract.
use Prim.Native.Nat.{ℕ}
use native.Mathlib.Omega.{arith}
use mathlib.Core.Path.{◌≡◌, sym, ap, subst, ◌∙◌}
use mathlib.Core.List.{List}
use lib.ListN.{length}
use borrow.Author.Tests.{eq-eqb}
use borrow.Author.Rules.{rules}
use Rattle.refusals.specs.declared.Refusal.TheVariants.{BlockPart}
use Rattle.refusals.specs.Numbers.{number_of}
use Rattle.bptc.specs.Mode.{Mode, mode1, mode3, mode_numbered}
use Rattle.bptc.proofs.Modes.{is_first, not_first}
use Rattle.bptc_block.specs.declared.FieldWords.{FieldWords}
use Rattle.bptc_block.specs.Fields.{block_fields, Plain}
use Rattle.bptc_block.specs.Internal.Words.{word_fields}
use Rattle.bptc_block.specs.Packed.{packed}
use Rattle.bptc_block.specs.Exchange.{compressed}
use Rattle.bptc_block.specs.declared.Fields.{Fields}
use Rattle.bptc_block.specs.Refusal.{check_candidate, check_indices}
use Rattle.bptc_block.specs.PackCall.{fixed_at, pack_of, pack_into}
use Rattle.bptc_block.proofs.PackCall.{pack-block}
use Rattle.bptc_block.proofs.Answers.{pack_left, pack_part}
use Rattle.bc7_c.specs.Numbers.{packed_at}
use Rattle.bc7_c.proofs.Accepted.{Accepted, accept}
use Rattle.bc7_c.proofs.pack.Goals.{In_ok-check_pack}
use Rattle.bc7_c.proofs.pack.Goals as goal

-- the checks of a block part of 16 bytes
checked : (mode : ℕ) (f : Fields) (part : List ℕ) (n : ℕ) → length part ≡ 16 → n ≡ check_candidate (fixed_at mode f) (check_indices mode f.indices 0) → n ≡ pack_of mode f part
unfolding pack_of
checked mode f part n sixteen e = rw (eq-eqb _ 16 sixteen) e

-- where they decline nothing
module _ (c : In_ok-check_pack) where
  -- what is handed over
  abbrev f : Fields
  f = packed_at c.args.numbers.partition c.args.numbers.ends c.args.numbers.p c.args.indices

  ok : pack_of c.args.numbers.mode f c.args.block.now ≡ 0
  ok = sym (checked c.args.numbers.mode f c.args.block.now 0 c.in-Some.ensures.cases.long c.in_ok-check_pack.ensures)

  taken : Accepted c.args.numbers.mode c.args.numbers.partition c.args.numbers.ends c.args.numbers.p c.args.indices
  taken = accept _ _ _ _ _ c.args.block.now (search rules) ok

-- what is written of a mode: fields in range
module _ (m : Mode) (c : In_ok-check_pack) (whole : mode_numbered c.args.numbers.mode ≡ m) where
  -- the words
  abbrev words : FieldWords
  words = record { partition = c.args.numbers.partition; ends = c.args.numbers.ends; p = c.args.numbers.p; indexes = c.args.indices }

  narrowed : Plain m (block_fields (word_fields 4 words))
  narrowed = subst (λ (g : Fields). Plain m (block_fields g)) (sym (taken c).words) (subst (λ (m : Mode). Plain m (block_fields (f c))) whole (taken c).plain)

  block : packed m (compressed m (block_fields (word_fields 4 words))) ≡ pack_into c.args.numbers.mode (f c) c.args.block.now
  block =
      ap (λ (g : Fields). packed m (compressed m (block_fields g))) (taken c).words
      ∙ ap (λ (m : Mode). packed m (compressed m (block_fields (f c)))) (sym whole)
      ∙ sym (pack-block _ _ _ (ok c))

pub returns-in_default : goal.returns-in_default
returns-in_default c =
    let e = pack_part _ c.args.block.now c.args.numbers.mode c.in_default.ensures.cases in
    (record { answer = e; part = pack_left BlockPart _ _ _ e })

pub returns-in_err-check_pack : goal.returns-in_err-check_pack
returns-in_err-check_pack c =
    let n = c.args.numbers in
    let part = c.in-Some.ensures.cases in
    let r = c.in_err-check_pack.field-0.0 in
    let f : Fields = packed_at n.partition n.ends n.p c.args.indices in
    let e : number_of r ≡ pack_of n.mode f c.args.block.now = checked n.mode f c.args.block.now _ part.long c.in_err-check_pack.ensures in
    (record { answer = search (rules, e); part = part.same ∙ pack_left r n.mode f c.args.block.now e })

pub overflow_cast-w : goal.overflow_cast-w
overflow_cast-w c = record { fits = (taken (goal.at.overflow_cast-w c).In_ok-check_pack).partition-byte }

pub overflow_cast-w-2 : goal.overflow_cast-w-2
overflow_cast-w-2 c = record { fits = (taken (goal.at.overflow_cast-w-2 c).In_ok-check_pack).p-byte }

pub write_narrowed-requires : goal.write_narrowed-requires
write_narrowed-requires c =
    let e = (goal.at.write_narrowed-requires c).In_ok-check_pack in
    narrowed mode1 e (is_first _ c.in-1.is)

pub write_narrowed-requires-in_default-mode : goal.write_narrowed-requires-in_default-mode
write_narrowed-requires-in_default-mode c =
    let e = (goal.at.write_narrowed-requires-in_default-mode c).In_ok-check_pack in
    narrowed mode3 e (not_first _ (λ e. omega arith))

pub returns-in-1 : goal.returns-in-1
returns-in-1 c =
    let e = (goal.at.returns-in-1 c).In_ok-check_pack in
    (record { answer = sym (ok e); part = c.write_narrowed.ensures ∙ block mode1 e (is_first _ c.in-1.is) })

pub returns-in_default-mode : goal.returns-in_default-mode
returns-in_default-mode c =
    let e = (goal.at.returns-in_default-mode c).In_ok-check_pack in
    (record { answer = sym (ok e); part = c.write_narrowed-in_default-mode.ensures ∙ block mode3 e (not_first _ (λ e. omega arith)) })
