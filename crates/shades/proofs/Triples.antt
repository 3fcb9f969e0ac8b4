-- Laws of a row of bytes that is written three at a time, one shade for each.
use Prim.Native.Nat.{ℕ, ◌+◌, ◌*◌, ◌/◌, ◌<◌}
use native.Mathlib.Omega.{arith}
use mathlib.Core.Path.{◌≡◌, ap, ◌∙◌}
use mathlib.Core.List.{List}
use lib.ListN.{length, get_or, set, length-map}
use Rattle.lists.specs.Rows.{written}
use Rattle.lists.proofs.Rows.{length-up_from, get_or-each, written_next}
use Rattle.shades.specs.Shade.{shade_of, shades_of, RowsShaded}

module _ (f : ℕ → ℕ) (xs : List ℕ) where
  -- one byte more of a row is written
  one_written : (n v : ℕ) → n < length xs → v ≡ f n → set (written f n xs) n v ≡ written f (n + 1) xs
  one_written n v h e = rw e (written_next 0 f xs n h)

  -- three equal bytes more of a row are written
  three-written : (n v : ℕ) → n + 2 < length xs → v ≡ f n → v ≡ f (n + 1) → v ≡ f (n + 2) →
      set (set (set (written f n xs) n v) (n + 1) v) (n + 2) v ≡ written f (n + 3) xs
  three-written n v h a b c =
      let two : n + 2 ≡ n + 1 + 1 = omega arith in
      let three : n + 3 ≡ n + 1 + 1 + 1 = omega arith in
      let last : v ≡ f (n + 1 + 1) = c ∙ ap f two in
      rw (one_written n v (omega arith) a, one_written (n + 1) v (omega arith) b, two, three)
      (one_written (n + 1 + 1) v (omega arith) last)

-- every row has three bytes for each error, which are its shade
pub rows_shaded : RowsShaded
unfolding shades_of
rows_shaded scale errors white = record {
  long = simp (length-map, length-up_from);
  equal = λ k c h l.
      let e : (3 * k + c) / 3 ≡ k = omega arith in
      get_or-each 0 (λ (j : ℕ). shade_of scale (get_or errors (j / 3) 0) white) (3 * length errors) (3 * k + c) (omega arith)
      ∙ ap (λ (i : ℕ). shade_of scale (get_or errors i 0) white) e;
}

-- the three bytes of block k are written behind those of the blocks before it
pub block_written : (g : ℕ → ℕ) (errors xs : List ℕ) (k v : ℕ) → 3 * k + 2 < length xs → v ≡ g (get_or errors k 0) →
    set (set (set (written (λ (i : ℕ). g (get_or errors (i / 3) 0)) (3 * k) xs) (3 * k) v) (3 * k + 1) v) (3 * k + 2) v
    ≡ written (λ (i : ℕ). g (get_or errors (i / 3) 0)) (3 * (k + 1)) xs
block_written g errors xs k v h e =
    let next : 3 * (k + 1) ≡ 3 * k + 3 = omega arith in
    let at : ℕ → ℕ = λ (i : ℕ). g (get_or errors i 0) in
    let a : k ≡ 3 * k / 3 = omega arith in
    let b : k ≡ (3 * k + 1) / 3 = omega arith in
    let c : k ≡ (3 * k + 2) / 3 = omega arith in
    rw next (three-written (λ (i : ℕ). g (get_or errors (i / 3) 0)) xs (3 * k) v h (e ∙ ap at a) (e ∙ ap at b) (e ∙ ap at c))
