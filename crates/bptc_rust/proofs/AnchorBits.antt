-- The anchors' top bits taken out from the last pixel down: what stays are fields of the widths that a block has.
use Prim.Native.Nat.{ℕ, zero, suc, ◌+◌, ◌-◌, ◌*◌, ◌^◌, ◌≤◌, ◌<◌}
use native.Mathlib.Nat.{add_comm, add-zero, zero-add, add_assoc, le_refl, lt_of_le_of_lt}
use native.Mathlib.Omega.{arith}
use mathlib.Core.Path.{◌≡◌, refl, ap, ap₂, ◌∙◌, subst}
use mathlib.Core.Bool.{Bool, true, false}
use mathlib.Core.List.{List, [], ◌∷◌, map}
use lib.Dec.{eqb}
use lib.ListN.{length, get_or, replicate}
use borrow.Author.Tests.{eq-eqb, ne_eqb}
use Rattle.lists.specs.Tests.{pick, or}
use Rattle.lists.specs.Rows.{up_from, sum}
use Rattle.lists.proofs.Tables.{any}
use Rattle.lists.proofs.Rows.{each_same}
use Rattle.lists.specs.Bits.{join}
use Rattle.bptc_rust.specs.CompressedIndexList.{compress_single_index}
use Rattle.lists.proofs.Bits.{sum-replicate}
use Rattle.bptc_rust.proofs.Without.{without, single_index, without_first, without_later, without_le}
use Rattle.bptc_rust.specs.Internal.Indexes.{bits_out}

join-same : (W U : ℕ → ℕ) (k n : ℕ) (vs : List ℕ) → ((i : ℕ) → n ≤ i → W i ≡ U i) → join (map W (up_from n k)) vs ≡ join (map U (up_from n k)) vs
unfolding join
join-same W U zero n vs h = refl
join-same W U (suc k) n [] h = refl
join-same W U (suc k) n (v ∷ vs) h = ap₂ (λ (w x : ℕ). x * 2 ^ w + v) (h n (le_refl n)) (join-same W U k (suc n) vs (λ i l. h i (omega arith)))

-- the top bit taken out of field a
join_without : (W U : ℕ → ℕ) (k n a : ℕ) (vs : List ℕ) → length vs ≡ k → a < k →
    W (n + a) ≡ suc (U (n + a)) → ((i : ℕ) → (i ≡ n + a → ⊥) → W i ≡ U i) →
    ((i : ℕ) → i < a → get_or vs i 0 < 2 ^ W (n + i)) → get_or vs a 0 < 2 ^ U (n + a) →
    without (sum (map W (up_from n a)) + U (n + a)) (join (map W (up_from n k)) vs) ≡ join (map U (up_from n k)) vs
unfolding join
join_without W U zero n a vs e l one same below at = absurd (omega arith)
join_without W U (suc k) n a [] e l one same below at = absurd (omega arith)
join_without W U (suc k) n zero (v ∷ vs) e l one same below at =
    let f : W n ≡ suc (U n) = rw (← add-zero n) one in
    let rest : join (map W (up_from (suc n) k)) vs ≡ join (map U (up_from (suc n) k)) vs = join-same W U k (suc n) vs (λ i g. same i (λ q. omega arith)) in
    rw (add-zero n, zero-add (U n), f, rest) (without_first (U n) v (join (map U (up_from (suc n) k)) vs) (rw (← add-zero n) at))
join_without W U (suc k) n (suc a) (v ∷ vs) e l one same below at =
    let q : n + suc a ≡ suc n + a = omega arith in
    let rest = join_without W U k (suc n) a vs (omega arith) (omega arith) (rw q at one) (rw q at same)
    (λ i g. let r : n + suc i ≡ suc n + i = omega arith in rw r at (below (suc i) (omega arith))) (rw q at at) in
    rw (q, add_assoc, without_later (W n) v (join (map W (up_from (suc n) k)) vs) (sum (map W (up_from (suc n) a)) + U (suc n + a)) (rw add-zero at (below 0 (omega arith))), rest)
    (ap (λ (w : ℕ). join (map U (up_from (suc n) k)) vs * 2 ^ w + v) (same n (λ r. omega arith)))

-- a list of one width
pub every : (I k n : ℕ) → map (λ (i : ℕ). I) (up_from n k) ≡ replicate k I
every I zero n = refl
every I (suc k) n = ap {B = List ℕ} (λ (ws : List ℕ). I ∷ ws) (every I k (suc n))

-- places from a bound down, each with its value below half and its top bit within a word
pub data Falling (I : ℕ) (xs : List ℕ) : ℕ → List ℕ → Type 0 where
  none : {b : ℕ} → Falling I xs b []
  next : {a b : ℕ} {ps : List ℕ} → a < b → I - 1 + a * I < 63 → get_or xs a 0 < 2 ^ (I - 1) → Falling I xs a ps → Falling I xs b (a ∷ ps)

-- a bit less at the places of a list
abbrev pub less : (ℕ → ℕ) → ℕ → List ℕ → ℕ → ℕ
less W I ps i = pick (any (eqb i) ps) (I - 1) (W i)

module _ (I : ℕ) (some : 0 < I) (xs : List ℕ) (sixteen : length xs ≡ 16) (tiny : (i : ℕ) → get_or xs i 0 < 2 ^ I) where
  -- the number of fields of some widths
  abbrev fields : (ℕ → ℕ) → ℕ
  fields W = join (map W (up_from 0 16)) xs

  module _ (W : ℕ → ℕ) (b a : ℕ) (bound : b ≤ 16) (full : (i : ℕ) → i < b → W i ≡ I) (room : fields W < 2 ^ 64)
      (inside : a < b) (place : I - 1 + a * I < 63) (low : get_or xs a 0 < 2 ^ (I - 1)) where
    -- the widths without this bit
    abbrev U : ℕ → ℕ
    U i = pick (eqb i a) (I - 1) (W i)

    out_at : U (0 + a) ≡ I - 1
    out_at = rw (zero-add a, eq-eqb a a refl)

    bit-place : I - 1 + a * I ≡ sum (map W (up_from 0 a)) + U (0 + a)
    bit-place =
        let same : map W (up_from 0 a) ≡ replicate a I = each_same 0 W (λ (i : ℕ). I) a (λ i h. full i (omega arith)) ∙ every I a 0 in
        rw (same, sum-replicate, out_at) (add_comm (I - 1) (a * I))

    without_one : without (I - 1 + a * I) (fields W) ≡ fields U
    without_one =
        let at : W (0 + a) ≡ I = ap W (zero-add a) ∙ full a inside in
        ap (λ (k : ℕ). without k (fields W)) bit-place
        ∙ join_without W U 16 0 a xs sixteen (omega arith) (at ∙ rw out_at (omega arith))
        (λ i ne. rw (ne_eqb i a (λ e. ne (rw zero-add e))))
        (λ i h. let w : W (0 + i) ≡ I = ap W (zero-add i) ∙ full i (omega arith) in rw w (tiny i)) (rw out_at low)

    out_one : compress_single_index I (fields W) a ≡ fields U
    out_one = single_index I (fields W) a room place ∙ without_one

    out_room : fields U < 2 ^ 64
    out_room = subst (λ (n : ℕ). n < 2 ^ 64) without_one (lt_of_le_of_lt (without_le (fields W) (I - 1 + a * I)) room)

    out_full : (i : ℕ) → i < a → U i ≡ I
    out_full i h = rw (ne_eqb i a (λ e. omega arith)) (full i (omega arith))

  -- all of them
  pub all_out : (W : ℕ → ℕ) (b : ℕ) (ps : List ℕ) → b ≤ 16 → ((i : ℕ) → i < b → W i ≡ I) → fields W < 2 ^ 64 → Falling I xs b ps →
      bits_out I ps (fields W) ≡ fields (less W I ps)
  unfolding bits_out
  all_out W b [] bound full room none = refl
  all_out W b (a ∷ ps) bound full room (next inside place low rest) =
      ap (bits_out I ps) (out_one W b a bound full room inside place low)
      ∙ all_out (λ (i : ℕ). pick (eqb i a) (I - 1) (W i)) a ps (omega arith) (out_full W b a bound full room inside place low) (out_room W b a bound full room inside place low) rest
      ∙ ap (λ (ws : List ℕ). join ws xs) (each_same 0 _ _ 16 (λ i h. both (any (eqb i) ps) (eqb i a) (W i)))
    where
      both : (t u : Bool) (w : ℕ) → pick t (I - 1) (pick u (I - 1) w) ≡ pick (or u t) (I - 1) w
      both true true w = refl
      both true false w = refl
      both false true w = refl
      both false false w = refl
