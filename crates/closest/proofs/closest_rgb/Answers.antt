-- `closest::closest_rgb` meets its contract: the least keys tell the nearest indices and the distances.
use Rattle.std.proofs.Common.{ℕ, ◌^◌, get_or, ◌∙◌}
use Rattle.bptc.specs.Internal.Colour.{colours_of}
use Rattle.bptc.proofs.Modes.{few_colours}
use Rattle.closest.proofs.Telling.{found_is, keys_tell, index_digit}
use Rattle.closest.proofs.closest_rgb.Goals as goal

pub returns : goal.returns
returns g c =
    let m = g.M.Mode.mode in
    let is = g.M.Mode.is_mode in
    let a = c.args in
    let cs = colours_of a.px.now in
    let best = c.least_keys-best in
    let s = c.summed-all.ensures in
    found_is m (few_colours m is) a.ends.stored a.p a.mask cs (λ (i : ℕ). get_or best.result i 0) (keys_tell m a.ends.stored a.p a.mask cs best.result best.ensures.same)
    (2 ^ m.index_bits) (index_digit m is) (rw (c.INDEX_BITS.ensures ∙ g.M.Mode.index_bits_are) at c.word.ensures) s.all s.second
