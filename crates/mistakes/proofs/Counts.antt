-- Counts of a list of modes, one mode after the other.
use Prim.Native.Nat.{ℕ, zero, suc, ◌+◌, ◌%◌, ◌^◌, ◌≤◌, ◌<◌}
use native.Mathlib.Omega.{arith}
use mathlib.Core.Path.{◌≡◌, refl, sym, ◌∙◌}
use mathlib.Core.Bool.{Bool, true, false, not}
use mathlib.Core.List.{List, [], ◌∷◌}
use lib.Dec.{eqb}
use lib.ListN.{get_or, set, length, replicate}
use borrow.Author.Tests.{eqb-true, eqb-false}
use Rattle.std.specs.Prelude.{◌≢◌}
use Rattle.std.proofs.lemmas.List.{get_or-set_same, get_or-set_other, length-set}
use Rattle.lists.specs.Rows.{sum}
use Rattle.lists.specs.Tests.{pick, and}
use Rattle.mistakes.specs.declared.unreadable.Unreadable.{Unreadable}
use Rattle.mistakes.specs.Unreadable.{is_read, no_blocks, counted}
use Rattle.mistakes.specs.Counts.{how_many, not_read, not_read_of, modes_counted, CountsRight}

-- the sum of a list with one more at a place
sum-one_more : (xs : List ℕ) (i : ℕ) → i < length xs → sum (set xs i (get_or xs i 0 + 1)) ≡ sum xs + 1
sum-one_more [] i h = absurd (omega arith)
sum-one_more (x ∷ xs) zero h = omega arith
sum-one_more (x ∷ xs) (suc i) h = omega (arith, sum-one_more xs i (omega arith))

-- counts that have room for n blocks more
record Room (n : ℕ) (u : Unreadable) : Type 0 where
  pub few : u.blocks + n < 2 ^ 64
  pub nine : length u.by_mode ≡ 9
  pub less : u.unreadable ≤ u.blocks
  pub least : (k : ℕ) → get_or u.by_mode k 0 ≤ u.blocks

-- what some blocks change in the counts: how many they are, the others of them, which are not read, and the others of each mode
record More (blocks others : ℕ) (each : ℕ → ℕ) (u v : Unreadable) : Type 0 where
  pub all_blocks : v.blocks ≡ u.blocks + blocks
  pub all_others : v.unreadable ≡ u.unreadable + others
  pub of_each : (k : ℕ) → get_or v.by_mode k 0 ≡ get_or u.by_mode k 0 + each k
  pub together : sum v.by_mode ≡ sum u.by_mode + others

-- what one block of mode m changes, which is read or not
abbrev One : Bool → ℕ → Unreadable → Unreadable → Type 0
One t m u v = More 1 (pick (not t) 1 0) (λ (k : ℕ). pick (and (not t) (eqb m k)) 1 0) u v × (length v.by_mode ≡ 9)

-- the counts with one block of mode m more, which is read or not
abbrev counted_by : Bool → ℕ → Unreadable → Unreadable
counted_by t m u = record {
  blocks = (u.blocks + 1) % 2 ^ 64;
  unreadable = pick t u.unreadable ((u.unreadable + 1) % 2 ^ 64);
  by_mode = pick t u.by_mode (set u.by_mode m ((get_or u.by_mode m 0 + 1) % 2 ^ 64));
}

-- counting one block changes them by it
one : (n m : ℕ) (u : Unreadable) (t : Bool) → m ≤ 8 → Room (suc n) u → One t m u (counted_by t m u)
one n m u true low room = (
  record {
    all_blocks = omega (arith, room.few);
    all_others = omega arith;
    of_each = λ k. omega arith;
    together = omega arith;
  },
  room.nine,
)
one n m u false low room =
    let new : (get_or u.by_mode m 0 + 1) % 2 ^ 64 ≡ get_or u.by_mode m 0 + 1 = omega (arith, room.few, room.least m) in
    let inside : m < length u.by_mode = omega (arith, room.nine) in
    rw new (
      record {
        all_blocks = omega (arith, room.few);
        all_others = omega (arith, room.few, room.less);
        of_each = λ k. at k (eqb m k) refl inside;
        together = sum-one_more u.by_mode m inside;
      },
      length-set u.by_mode m (get_or u.by_mode m 0 + 1) ∙ room.nine,
    )
  where
    at : (k : ℕ) (t : Bool) → eqb m k ≡ t → m < length u.by_mode →
        get_or (set u.by_mode m (get_or u.by_mode m 0 + 1)) k 0 ≡ get_or u.by_mode k 0 + pick t 1 0
    at k true e inside = let same : k ≡ m = sym (eqb-true m k e) in rw (same, get_or-set_same)
    at k false e inside =
        let apart : k ≢ m = λ same. eqb-false m k e (sym same) in
        rw get_or-set_other (omega arith)

-- what the blocks of a list of modes change
abbrev All : List ℕ → Unreadable → Unreadable → Type 0
All ms = More (length ms) (how_many not_read ms) (λ (k : ℕ). how_many (not_read_of k) ms)

-- the changes of one block and then of a list of blocks
first_one : (m : ℕ) (ms : List ℕ) (u v w : Unreadable) → One (is_read m) m u v → All ms v w → All (m ∷ ms) u w
first_one m ms u v w (a, long) b = record {
  all_blocks = omega (arith, a.all_blocks, b.all_blocks);
  all_others = omega (arith, a.all_others, b.all_others);
  of_each = λ k. omega (arith, a.of_each k, b.of_each k);
  together = omega (arith, a.together, b.together);
}

-- what one block adds to a count
one_at_most : (t : Bool) → pick t 1 0 ≤ 1
one_at_most true = omega arith
one_at_most false = omega arith

-- the counts after one block have room for the others
room_left : (n : ℕ) (t : Bool) (m : ℕ) (u v : Unreadable) → Room (suc n) u → One t m u v → Room n v
room_left n t m u v room (a, long) = record {
  few = omega (arith, room.few, a.all_blocks);
  nine = long;
  less = omega (arith, room.less, a.all_blocks, a.all_others, one_at_most (not t));
  least = λ k. omega (arith, room.least k, a.all_blocks, a.of_each k, one_at_most (and (not t) (eqb m k)));
}

-- counting a list of modes changes the counts by its blocks
all_counted : (modes : List ℕ) (u : Unreadable) → ((i : ℕ) → get_or modes i 0 ≤ 8) → Room (length modes) u →
    All modes u (modes_counted u modes)
unfolding modes_counted
all_counted [] u low room = record {
  all_blocks = omega arith;
  all_others = omega arith;
  of_each = λ k. omega arith;
  together = omega arith;
}
all_counted (m ∷ ms) u low room =
    let a : One (is_read m) m u (counted u m) = one (length ms) m u (is_read m) (low 0) room in
    first_one m ms u (counted u m) (modes_counted (counted u m) ms) a
    (all_counted ms (counted u m) (λ i. low (suc i)) (room_left (length ms) (is_read m) m u (counted u m) room a))

-- a list of zeros is 0 at every place
none_at : (n k : ℕ) → get_or {A = ℕ} (replicate n 0) k 0 ≡ 0
none_at zero k = refl
none_at (suc n) zero = refl
none_at (suc n) (suc k) = none_at n k

-- the counts from none
pub counts_right : CountsRight
counts_right modes low few =
    let room : Room (length modes) no_blocks = record {
      few = omega (arith, few);
      nine = refl;
      less = omega arith;
      least = λ k. omega (arith, none_at 9 k);
    } in
    let a : All modes no_blocks (modes_counted no_blocks modes) = all_counted modes no_blocks low room in
    record {
      blocks = omega (arith, a.all_blocks);
      unreadable = omega (arith, a.all_others);
      each = λ k. omega (arith, a.of_each k, none_at 9 k);
      together = omega (arith, a.together, a.all_others);
    }
