-- `key_numbers::columns::interleaved` meets its contract. The invariant: the first j colours of each row are written.
use native.Mathlib.Omega.{arith}
use Prim.Native.Nat.{ℕ, ◌+◌, ◌*◌, ◌<◌}
use native.Mathlib.Nat.{add-zero}
use mathlib.Core.Path.{◌≡◌, sym, ap₂}
use mathlib.Core.List.{List, [], ◌∷◌}
use lib.Arith.{digits_div, digits_mod}
use lib.ListN.{get_or, replicate}
use Rattle.bptc.specs.declared.Colour.{Colour}
use Rattle.key_numbers.specs.Numbers.{row_word, column_words}
use Rattle.lists.proofs.Writing.{written-four}
use Rattle.key_numbers.proofs.columns.interleaved.Goals as goal

-- the colour at column k
column : (a b c d : List Colour) (j k : ℕ) → k < 4 → column_words a b c d (j * 4 + k) ≡ row_word (get_or (a ∷ (b ∷ (c ∷ (d ∷ [])))) k []) j
unfolding column_words
column a b c d j k h = ap₂ (λ (m n : ℕ). row_word (get_or (a ∷ (b ∷ (c ∷ (d ∷ [])))) m []) n) (digits_mod j h) (digits_div j h)

pub loop-j-preserved : goal.loop-j-preserved
loop-j-preserved c =
    let at = c.loop-j in
    let r = c.args in
    let next : (at.j + 1) * 4 ≡ at.j * 4 + 4 = omega arith in
    let one : (k : ℕ) → k < 4 → row_word (get_or (r.a ∷ (r.b ∷ (r.c ∷ (r.d ∷ [])))) k []) at.j ≡ column_words r.a r.b r.c r.d (at.j * 4 + k) =
    λ k h. sym (column r.a r.b r.c r.d at.j k h) in
    rw (at.invariant, next)
    (written-four (column_words r.a r.b r.c r.d) (replicate 16 0) (at.j * 4) _ _ _ _ (omega arith)
    (rw add-zero at (one 0 (omega arith))) (one 1 (omega arith)) (one 2 (omega arith)) (one 3 (omega arith)))
