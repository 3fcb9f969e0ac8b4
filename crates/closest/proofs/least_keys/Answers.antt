-- `closest::least_keys` meets its contract: the least of each pixel's columns is its least key.
use Rattle.std.proofs.Common.{◌≡◌, ℕ, ◌%◌, ◌*◌, map, get_or, ap, ◌∙◌}
use Rattle.lists.specs.Rows.{up_from}
use Rattle.bptc.specs.Internal.Palette.{coloured, palettes}
use Rattle.bptc.specs.Internal.Pixels.{pixel_of}
use Rattle.bptc.proofs.Modes.{few_colours, shades_of}
use Rattle.keys.specs.Keys.{pixel_key}
use Rattle.key_numbers.specs.Numbers.{flat_rows, numbers_of}
use Rattle.closest.proofs.RowKeys.{numbers_made, in_range_lem, keys_told, keys_small}
use Rattle.closest.proofs.least_keys.Given.{Over}
use Rattle.closest.proofs.least_keys.Goals.{After-numbers_of-numbers}
use Rattle.closest.proofs.least_keys.Goals as goal

-- the numbers are those of the mode's palettes
made : (g : Over) (c : After-numbers_of-numbers g) →
    c.numbers_of-numbers.result ≡ numbers_of 8 16 (λ (k : ℕ). pixel_of (get_or (flat_rows (coloured (palettes g.M.Mode.mode c.args.ends.stored c.args.p))) k 0)) (λ (k : ℕ). k % 8)
made g c = numbers_made _ _ _ c.palettes.ensures c.numbers_of-numbers.ensures

pub block_columns-requires : goal.block_columns-requires
block_columns-requires g c =
    let m = g.M.Mode.mode in
    let is = g.M.Mode.is_mode in
    let a = c.args in
    record {
      steps =
          rw g.met.M.Search.eight
          (in_range_lem m (shades_of m is) (few_colours m is) a.ends.stored a.p a.ends.within _ (made g (goal.at.block_columns-requires g c).After-numbers_of-numbers)
          a.px.now (λ i h. c.fits-px i) a.mask);
    }

pub returns : goal.returns
returns g c =
    let m = g.M.Mode.mode in
    let is = g.M.Mode.is_mode in
    let a = c.args in
    let numbers = c.numbers_of-numbers.result in
    let made = made g (goal.at.returns g c).After-numbers_of-numbers in
    let out : c.block_columns.result ≡ map (λ (i : ℕ). g.M.Layout.columns (pixel_key 16 8 numbers a.px.now a.mask i)) (up_from 0 16) =
    c.block_columns.ensures
    ∙ ap (λ (n : ℕ). map (λ (i : ℕ). g.M.Layout.columns (pixel_key (n * 2) n numbers a.px.now a.mask i)) (up_from 0 16)) g.met.M.Search.eight in record {
      same =
          keys_told m (shades_of m is) (few_colours m is) a.ends.stored a.p a.ends.within numbers made a.px.now (λ i h. c.fits-px i) a.mask
          g.M.Layout.columns g.met.M.Search.least _ out _ c.least.ensures;
      small =
          keys_small m (shades_of m is) (few_colours m is) a.ends.stored a.p a.ends.within numbers made a.px.now (λ i h. c.fits-px i) a.mask
          g.M.Layout.columns g.met.M.Search.least _ out _ c.least.ensures;
    }
