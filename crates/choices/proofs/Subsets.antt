-- Laws of the raised distances of a subset: they are the error that closest_rgb gives, and what its pixels are raised by.
use Prim.Native.Nat.{ℕ, ◌+◌}
use native.Mathlib.Omega.{arith}
use mathlib.Core.Path.{◌≡◌, refl, ap, ◌∙◌}
use mathlib.Core.Bool.{Bool, true, false}
use mathlib.Core.List.{List, [], ◌∷◌}
use lib.Dec.{eqb, leb}
use lib.ListN.{get_or}
use borrow.Author.Tests.{eqb-true, leb-true, leb-false, le-leb, lt-leb}
use Rattle.bptc.specs.declared.Rgb.{Rgb}
use Rattle.lists.specs.Tests.{pick}
use Rattle.lists.specs.Rows.{over_pixels}
use Rattle.lists.specs.Least.{first_least}
use Rattle.lists.specs.Digits.{bit}
use Rattle.bptc.specs.Mode.{Mode}
use Rattle.bptc.specs.Internal.Masks.{mask_of}
use Rattle.bptc.specs.Partition.{subset_of}
use Rattle.bptc.specs.Internal.Colour.{black, dist_sq}
use Rattle.bptc.specs.Internal.Palette.{palette_colour}
use Rattle.bptc.specs.Internal.Nearest.{nearest_rgb}
use Rattle.bptc.specs.Internal.Closest.{closest_in}
use Rattle.lists.proofs.Sums.{pixels-same, pixels-add, pixels-split}
use Rattle.keys.specs.Keys.{bias}
use Rattle.closest.specs.Found.{biased_in}
use Rattle.closest.specs.Pick.{bias_all}

-- adding the same to every error chooses the same
pub least-raised : (f : ℕ → ℕ) (n best : ℕ) (xs : List ℕ) → first_least (λ (p : ℕ). f p + n) best xs ≡ first_least f best xs
unfolding first_least
least-raised f n best [] = refl
least-raised f n best (x ∷ xs) =
    ap (λ (t : Bool). first_least (λ (p : ℕ). f p + n) (pick t best x) xs) (go (leb (f best) (f x)) refl)
    ∙ least-raised f n (pick (leb (f best) (f x)) best x) xs
  where
    go : (t : Bool) → leb (f best) (f x) ≡ t → leb (f best + n) (f x + n) ≡ leb (f best) (f x)
    go true e = rw e (le-leb (f best + n) (f x + n) (omega (arith, leb-true (f best) (f x) e)))
    go false e = rw e (lt-leb (f best + n) (f x + n) (omega (arith, leb-false (f best) (f x) e)))

module _ (m : Mode) (part : ℕ) (ends cs : List Rgb) where
  -- the raised distances of subset s at p-bits
  abbrev pub over : ℕ → ℕ → ℕ
  over s p = over_pixels (λ (i : ℕ). pick (eqb (bit (mask_of part) i) s) (biased_in m ends p (mask_of part) cs i) 0)

  -- what its pixels are raised by
  abbrev pub rest : ℕ → ℕ
  rest s = over_pixels (λ (i : ℕ). pick (eqb (bit (mask_of part) i) s) (bias (get_or cs i black)) 0)

  -- its error by closest_rgb
  abbrev pub closest_error : ℕ → ℕ → ℕ
  closest_error s p = (closest_in m part ends p s cs).error

  -- the three
  pub over_is : (s p : ℕ) → over s p ≡ closest_error s p + rest s
  unfolding closest_in subset_of
  over_is s p =
      pixels-same _ _ (λ i h. go i (eqb (bit (mask_of part) i) s) refl)
      ∙ pixels-add (λ (i : ℕ). pick (eqb (bit (mask_of part) i) s) (far s i) 0) (λ (i : ℕ). pick (eqb (bit (mask_of part) i) s) (bias (get_or cs i black)) 0)
    where
      far : ℕ → ℕ → ℕ
      far t i = dist_sq (get_or cs i black) (palette_colour m ends p t (nearest_rgb m ends p t (get_or cs i black)))

      go : (i : ℕ) (t : Bool) → eqb (bit (mask_of part) i) s ≡ t → pick t (far (bit (mask_of part) i) i + bias (get_or cs i black)) 0 ≡ pick t (far s i) 0 + pick t (bias (get_or cs i black)) 0
      go i true e = ap (λ (t : ℕ). far t i + bias (get_or cs i black)) (eqb-true (bit (mask_of part) i) s e)
      go i false e = refl

  -- both subsets make the whole
  pub over-all : (p : ℕ) → over_pixels (biased_in m ends p (mask_of part) cs) ≡ over 0 p + over 1 p
  over-all p = pixels-split (biased_in m ends p (mask_of part) cs) (bit (mask_of part)) (λ i h. omega arith)

  -- and so of what their pixels are raised by
  pub rest_all : bias_all cs ≡ rest 0 + rest 1
  unfolding bias_all
  rest_all = pixels-split (λ (i : ℕ). bias (get_or cs i black)) (bit (mask_of part)) (λ i h. omega arith)
