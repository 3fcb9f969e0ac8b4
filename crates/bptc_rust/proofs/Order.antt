-- What the order of the Rust asks of a mode, by one test that antt computes over the partitions of each: the anchors go down, and the
-- indexes without their top bits have the widths that a block has.
use Prim.Native.Nat.{ℕ, ◌+◌, ◌-◌, ◌*◌, ◌^◌, ◌≤◌, ◌<◌}
use native.Mathlib.Omega.{arith}
use mathlib.Core.Path.{◌≡◌, refl}
use mathlib.Core.Bool.{Bool, true, false}
use mathlib.Core.List.{List, [], ◌∷◌, map}
use lib.Dec.{T, eqb, ltb, leb, eqb→eq, ltb→lt, leb→le}
use lib.ListN.{get_or}
use borrow.Author.Tests.{eq-eqb}
use Rattle.lists.specs.Tests.{and, or, all}
use Rattle.lists.specs.Rows.{up_from, sum}
use Rattle.bptc.specs.Partition.{masks, anchors, table, digits_of, subset_of, anchor_of}
use Rattle.lists.proofs.Tests.{and_left, and_right}
use Rattle.lists.proofs.Tables.{any, tested}
use Rattle.bptc.specs.Mode.{Mode, mode1, mode3, IsMode}
use Rattle.bptc_block.specs.Fields.{index_width}
use Rattle.bptc_rust.specs.Internal.Indexes.{fixups}
use Rattle.bptc.proofs.Modes.{by_mode}
use Rattle.bptc_rust.proofs.AnchorBits.{Falling, none, next, less}

-- places that go down from a bound, each with its top bit within a word
abbrev falls : ℕ → ℕ → List ℕ → Bool
falls I b [] = true
falls I b (a ∷ ps) = and (ltb a b) (and (ltb (I - 1 + a * I) 63) (falls I a ps))

-- of a mode
pub record Ordered (m : Mode) : Type 0 where
  pub most : m.index_bits ≤ 4
  pub falling : (part : ℕ) → part < 2 ^ m.partition_bits → T (falls m.index_bits 16 (fixups m part))
  pub wide : (part : ℕ) → part < 2 ^ m.partition_bits → (i : ℕ) → i < 16 → less (λ (j : ℕ). m.index_bits) m.index_bits (fixups m part) i ≡ index_width m part i
  pub total : (part : ℕ) → part < 2 ^ m.partition_bits → sum (map (index_width m part) (up_from 0 16)) ≡ 16 * m.index_bits - m.subsets

-- of the width at a pixel
abbrev wide_test : Mode → ℕ → ℕ → Bool
wide_test m part i = eqb (less (λ (j : ℕ). m.index_bits) m.index_bits (fixups m part) i) (index_width m part i)

-- of a partition
abbrev part_test : Mode → ℕ → Bool
part_test m part =
    and (falls m.index_bits 16 (fixups m part))
    (and (all (wide_test m part) (up_from 0 16)) (eqb (sum (map (index_width m part) (up_from 0 16))) (16 * m.index_bits - m.subsets)))

ordered_by : (m : Mode) → T (leb m.index_bits 4) → T (all (part_test m) (up_from 0 (2 ^ m.partition_bits))) → Ordered m
ordered_by m most t =
    let part : (q : ℕ) → q < 2 ^ m.partition_bits → T (part_test m q) = tested (part_test m) (2 ^ m.partition_bits) t in
    let rest : (q : ℕ) → q < 2 ^ m.partition_bits → T (and (all (wide_test m q) (up_from 0 16)) (eqb (sum (map (index_width m q) (up_from 0 16))) (16 * m.index_bits - m.subsets))) =
    λ q h. and_right (falls m.index_bits 16 (fixups m q)) _ (part q h) in
    record {
      most = leb→le _ _ most;
      falling = λ q h. and_left (falls m.index_bits 16 (fixups m q)) _ (part q h);
      wide = λ q h i l. eqb→eq _ _ (tested (wide_test m q) 16 (and_left (all (wide_test m q) (up_from 0 16)) _ (rest q h)) i l);
      total = λ q h. eqb→eq _ _ (and_right (all (wide_test m q) (up_from 0 16)) _ (rest q h));
    }

-- mode 1
ordered1 : Ordered mode1
unfolding masks anchors table digits_of subset_of anchor_of index_width fixups
ordered1 = ordered_by mode1 tt tt

-- mode 3
ordered3 : Ordered mode3
unfolding masks anchors table digits_of subset_of anchor_of index_width fixups
ordered3 = ordered_by mode3 tt tt

-- either mode
pub ordered_of : (m : Mode) → IsMode m → Ordered m
ordered_of = by_mode Ordered ordered1 ordered3

-- such places, each with a value below half
pub falling_of : (I : ℕ) (xs : List ℕ) (b : ℕ) (ps : List ℕ) → b ≤ 16 → T (falls I b ps) →
    ((a : ℕ) → a < 16 → any (eqb a) ps ≡ true → get_or xs a 0 < 2 ^ (I - 1)) → Falling I xs b ps
falling_of I xs b [] bound t low = none
falling_of I xs b (a ∷ ps) bound t low =
    let rest : T (and (ltb (I - 1 + a * I) 63) (falls I a ps)) = and_right (ltb a b) _ t in
    let below : a < b = ltb→lt _ _ (and_left (ltb a b) _ t) in
    next below (ltb→lt _ _ (and_left (ltb (I - 1 + a * I) 63) _ rest)) (low a (omega arith) (rw (eq-eqb a a refl)))
    (falling_of I xs a ps (omega arith) (and_right (ltb (I - 1 + a * I) 63) _ rest) (λ c h e. low c h (later (eqb c a) (any (eqb c) ps) e)))
  where
    later : (t u : Bool) → u ≡ true → or t u ≡ true
    later true u e = refl
    later false u e = e
