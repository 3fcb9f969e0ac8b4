-- `finishing::pick::fixed` meets its contract: the least keys tell the indices and the sum.
use Prim.Native.Nat.{ℕ, ◌^◌}
use mathlib.Core.Path.{◌≡◌, ap, ◌∙◌}
use lib.ListN.{get_or}
use Rattle.bptc.specs.Internal.Masks.{mask_of}
use Rattle.bptc.specs.Internal.Colour.{colours_of}
use Rattle.bptc.proofs.Modes.{few_colours}
use Rattle.closest.specs.Found.{least_keys}
use Rattle.closest.proofs.Telling.{tell_indexes, tell_all, keys_tell, index_digit}
use Rattle.finishing.proofs.Kept.{picked_sum}
use Rattle.finishing.proofs.pick.fixed.Goals as goal

pub returns : goal.returns
returns g c =
    let p = c.args.p in
    let part = c.args.query.now.partition.number in
    let ends = c.args.query.now.ends.stored in
    let m = g.M.Mode.mode in
    let known = g.M.Mode.is_mode in
    let cs = colours_of c.args.query.now.pixels.now in
    let mask = mask_of part in
    let best = c.least_keys-best in
    let told = keys_tell m ends p mask cs best.result (best.ensures.same ∙ ap (λ (n : ℕ). least_keys m ends p n cs) (c.from-mask.ensures ∙ c.mask.ensures)) in
    let few = few_colours m known in
    let w : c.INDEX_BITS.result ≡ m.index_bits = c.INDEX_BITS.ensures ∙ g.M.Mode.index_bits_are in
    let indexes = rw w at c.word.ensures ∙ tell_indexes m few ends p mask cs (λ (i : ℕ). get_or best.result i 0) told (2 ^ m.index_bits) (index_digit m known) in
    let sum = c.sum.ensures ∙ tell_all m few ends p mask cs (λ (i : ℕ). get_or best.result i 0) told in
    (λ t. record { indexes = indexes t; sum = sum t; p = p }) ∙ picked_sum m known part ends c.args.query.now.pixels.now p
