-- The errors of a row of blocks over the picture's own pixels alone: those repeated from its last column or its last row do not count.
use Rattle.std.specs.Prelude.{ℕ, ◌+◌, ◌*◌, ◌/◌, ◌%◌, Bool, List, eqb, ltb, leb, get_or}
use Rattle.lists.specs.Rows.{sum_to, over_pixels}
use Rattle.lists.specs.Parts.{part_at}
use Rattle.lists.specs.Tests.{pick, and}
use Rattle.groups.specs.Cutting.{groups_across}
use Rattle.bptc_block.specs.ReadCall.{read_into}
use Rattle.bptc_block.specs.RoundTrip.{pixels_apart}

-- whether pixel i of block k is one of the picture's own, in a row of blocks that has so many rows of pixels w wide
abbrev pub own_pixel : ℕ → ℕ → ℕ → ℕ → Bool
own_pixel w rows k i = and (ltb (i / 4) rows) (ltb (k * 4 + i % 4) w)

-- whether all sixteen pixels of block k are the picture's own, in a row of blocks that has so many rows of pixels w wide
abbrev pub whole : ℕ → ℕ → ℕ → Bool
whole w rows k = and (eqb rows 4) (leb (k * 4 + 4) w)

-- the distance of two groups of 48 bytes over the picture's own pixels in block k
unfoldable pub own_apart : ℕ → ℕ → ℕ → List ℕ → List ℕ → ℕ
own_apart w rows k px other = over_pixels (λ (i : ℕ). pick (own_pixel w rows k i) (pixels_apart px other i) 0)

-- what block k adds to the error over the picture's own pixels: its error where it is whole, and else the distance of its group from
-- what it is read as, over the picture's own pixels in it
unfoldable pub own_at : ℕ → ℕ → List ℕ → List ℕ → List ℕ → ℕ → ℕ
own_at w rows groups blocks errors k =
    let group : List ℕ = part_at 48 k groups in
    pick (whole w rows k) (get_or errors k 0) (own_apart w rows k group (read_into (part_at 16 k blocks) group))

-- what a row of blocks adds to the error over the picture's own pixels: the sum of what its blocks add
unfoldable pub own_row_of : ℕ → ℕ → List ℕ → List ℕ → List ℕ → ℕ
own_row_of w rows groups blocks errors = sum_to (own_at w rows groups blocks errors) (groups_across w)
