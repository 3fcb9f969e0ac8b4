-- `block::pack_as` meets its contract.
use Prim.Native.Nat.{ℕ}
use mathlib.Core.Path.{◌≡◌}
use lib.Dec.{leb}
use borrow.Author.Tests.{ne_eqb}
use borrow.Author.Rules.{rules}
use Rattle.std.specs.List.{list_all}
use Rattle.refusals.specs.Numbers.{number_of}
use Rattle.refusals.proofs.Numbers.{some_number}
use Rattle.bptc.specs.Mode.{largest}
use Rattle.bptc_block.specs.Refusal.{unless}
use Rattle.bptc_block.specs.PackCall.{pack_of}
use Rattle.bptc_block.proofs.Answers.{pack_left, pack_stored, pack_in_range, pack_written}
use Rattle.block.proofs.pack_as.Goals.{In_ok-check_indices}
use Rattle.block.proofs.pack_as.Given.{Over}
use Rattle.block.proofs.pack_as.Goals as goal

-- the checks decline nothing
none : (g : Over) (c : In_ok-check_indices g) → 0 ≡ pack_of g.M.Mode.mode.number c.args.fields c.args.block.now
none g c = pack_stored c.args.fields c.args.block.now (search rules) g.M.Mode.mode g.M.Mode.is_mode (search rules) c.in_ok-check_stored.ensures c.in_ok-check_indices.ensures

pub returns-in_err-check_stored : goal.returns-in_err-check_stored
returns-in_err-check_stored g c =
    let m = g.M.Mode in
    let f = c.args.fields in
    let part = c.args.block.now in
    let r = c.in_err-check_stored.field-0.0 in
    let rest : ℕ = unless (list_all (λ (i : ℕ). leb i (largest m.mode)) f.indices) 7 0 in
    let e : number_of r ≡ pack_of m.mode.number f part =
    rw (ne_eqb (number_of r) 0 (some_number r)) at (pack_stored f part (search rules) m.mode m.is_mode (search rules) {indices = rest} c.in_err-check_stored.ensures (λ i. rest)) in
    (record { answer = search (rules, e); part = pack_left r m.mode.number f part e })

pub returns-in_err-check_indices : goal.returns-in_err-check_indices
returns-in_err-check_indices g c =
    let m = g.M.Mode in
    let f = c.args.fields in
    let part = c.args.block.now in
    let r = c.in_err-check_indices.field-0.0 in
    let e : number_of r ≡ pack_of m.mode.number f part =
    pack_stored f part (search rules) m.mode m.is_mode (search rules) c.in_ok-check_stored.ensures c.in_err-check_indices.ensures in
    (record { answer = search (rules, e); part = pack_left r m.mode.number f part e })

pub write-requires : goal.write-requires
write-requires g c =
    pack_in_range c.args.fields c.args.block.now g.M.Mode.mode g.M.Mode.is_mode (none g (goal.at.write-requires g c).In_ok-check_indices) (search rules) (search rules)

pub returns : goal.returns
returns g c =
    let e = none g (goal.at.returns g c).In_ok-check_indices in
    (record { answer = e; part = pack_written c.args.fields c.args.block.now g.M.Mode.mode g.M.Mode.is_mode e c.write.ensures })
