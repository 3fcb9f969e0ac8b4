-- The first of four that is least.
use Prim.Native.Nat.{ℕ, ◌<◌}
use native.Mathlib.Omega.{arith}
use mathlib.Core.Path.{◌≡◌, refl, sym, ap, ◌∙◌}
use mathlib.Core.Bool.{Bool, true, false}
use mathlib.Core.List.{List, [], ◌∷◌, map}
use lib.Dec.{leb, ltb}
use Rattle.lists.specs.Tests.{pick}
use Rattle.lists.specs.Least.{first_least}
use Rattle.lists.proofs.Tests.{pick-map}
use Rattle.lists.proofs.Least.{strict}

-- the lesser of two, and where it stands
one_more : (f : ℕ → ℕ) (i x m n j : ℕ) → m ≡ f i → n ≡ pick (ltb (f x) m) (f x) m → j ≡ pick (ltb (f x) m) x i →
    (n ≡ f j) × (j ≡ pick (leb (f i) (f x)) i x)
one_more f i x m n j e en ej =
    let j' : j ≡ pick (ltb (f x) (f i)) x i = rw e at ej in
    let n' : n ≡ pick (ltb (f x) (f i)) (f x) (f i) = rw e at en in
    (n' ∙ sym (pick-map f (ltb (f x) (f i)) x i) ∙ ap f (sym j'), j' ∙ strict (f i) (f x) i x)

pick_lt : (t : Bool) (x y top : ℕ) → x < top → y < top → pick t x y < top
pick_lt true x y top h k = h
pick_lt false x y top h k = k

-- the first of four that is least, with its figure
pub best_four : (f : ℕ → ℕ) (m i n j sum at : ℕ) →
    m ≡ pick (ltb (f 1) (f 0)) (f 1) (f 0) → i ≡ pick (ltb (f 1) (f 0)) 1 0 →
    n ≡ pick (ltb (f 2) m) (f 2) m → j ≡ pick (ltb (f 2) m) 2 i →
    sum ≡ pick (ltb (f 3) n) (f 3) n → at ≡ pick (ltb (f 3) n) 3 j →
    (at ≡ first_least f 0 (1 ∷ (2 ∷ (3 ∷ [])))) × (sum ≡ f at) × (at < 4)
unfolding first_least
best_four f m i n j sum at em ei en ej es ea =
    let x = one_more f 0 1 (f 0) m i refl em ei in
    let y = one_more f i 2 m n j x.0 en ej in
    let z = one_more f j 3 n sum at y.0 es ea in
    let ni : i < 4 = rw ei (pick_lt (ltb (f 1) (f 0)) 1 0 4 (omega arith) (omega arith)) in
    let nj : j < 4 = rw ej (pick_lt (ltb (f 2) m) 2 i 4 (omega arith) ni) in (
      z.1 ∙ ap (λ (j : ℕ). pick (leb (f j) (f 3)) j 3) (y.1 ∙ ap (λ (i : ℕ). pick (leb (f i) (f 2)) i 2) x.1),
      z.0,
      rw ea (pick_lt (ltb (f 3) n) 3 j 4 (omega arith) nj),
    )

-- a function of what is chosen
pub least-map : (f g : ℕ → ℕ) (best : ℕ) (xs : List ℕ) → first_least f (g best) (map g xs) ≡ g (first_least (λ (x : ℕ). f (g x)) best xs)
unfolding first_least
least-map f g best [] = refl
least-map f g best (x ∷ xs) =
    ap (λ (b : ℕ). first_least f b (map g xs)) (sym (pick-map g (leb (f (g best)) (f (g x))) best x))
    ∙ least-map f g (pick (leb (f (g best)) (f (g x))) best x) xs
