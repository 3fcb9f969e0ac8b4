-- `palette::palettes::Ends::palettes` meets its contract: the mode's weights, and the colours that the endpoints show at its widths.
use Prim.Native.Nat.{ℕ, suc}
use mathlib.Core.Path.{◌≡◌, ap₂, ◌∙◌}
use mathlib.Core.List.{map}
use Rattle.lists.specs.Rows.{up_from}
use Rattle.bptc.specs.Mode.{largest, p_bits}
use Rattle.bptc.specs.Internal.Shown.{end_shown_by, end_rgb}
use Rattle.bptc.specs.Internal.Palette.{row_weights}
use Rattle.bptc.proofs.Modes.{few_colours, shades_of}
use Rattle.bptc.proofs.Shading.{palettes-made}
use Rattle.palette.proofs.palettes.Ends.palettes.Goals as goal

pub returns : goal.returns
unfolding end_rgb
returns g c =
    let m = g.M.Mode.mode in
    let is = g.M.Mode.is_mode in
    let ends = c.args.self.stored in
    let p = c.args.p in
    let weights : c.WEIGHTS-weights.result ≡ row_weights m = c.WEIGHTS-weights.ensures ∙ g.M.Mode.weights_are in
    let colours : c.colours.result ≡ suc (largest m) = c.colours.ensures.0 in
    let bits : c.width.result.bits ≡ m.channel_bits = c.width.ensures in
    let p_bits : c.P_BITS.result ≡ p_bits m = c.P_BITS.ensures ∙ g.M.Mode.p_bits_are in
    let shown : c.ends_shown-shown.result ≡ map (end_rgb m ends p) (up_from 0 4) =
    c.ends_shown-shown.ensures ∙ ap₂ (λ (b q : ℕ). map (end_shown_by b q ends p) (up_from 0 4)) bits p_bits in
    rw (c.rows.ensures, weights, colours) (palettes-made m (shades_of m is) (few_colours m is) ends p c.ends_shown-shown.result shown)
