-- bc7.rs: closest_rgb, the index of each pixel and the error of all.
use Rattle.std.specs.Prelude.{ℕ, ◌+◌, List}
use Rattle.bptc.specs.declared.Rgb.{Rgb}
use Rattle.bptc_rust.specs.Words.{loop, enumerate}
use Rattle.bptc_rust.specs.Palette.{palette_rgb, best_of}
use Rattle.bptc_rust.specs.IndexList.{put}

-- closest: indexes and error
unfoldable pub closest : ℕ → List Rgb → List Rgb → ℕ × ℕ
closest I palette pixels =
    loop (enumerate 0 pixels) (0, 0)
    (λ ((indexes, error) : ℕ × ℕ) ((i, p) : ℕ × Rgb).
    let best : ℕ × ℕ = best_of palette p in
    (put I indexes i best.0, error + best.1))

-- over the palette between two colours that are shown
unfoldable pub closest_rgb : ℕ → Rgb → Rgb → List Rgb → ℕ × ℕ
closest_rgb I e0 e1 pixels = closest I (palette_rgb I e0 e1) pixels
