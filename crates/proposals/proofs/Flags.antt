-- The flags of records one after the other.
use Rattle.std.proofs.Common.{ℕ, zero, suc, ◌+◌, ◌*◌, ◌/◌, ◌≡◌, Bool, List, ◌++◌, length, length-append, get_or, refl, ap, ◌∙◌, arith}
use mathlib.Core.Path.{ap₂}
use lib.Dec.{leb}
use lib.ListN.{get_or-append}
use Rattle.std.proofs.lemmas.List.{get_or-append_right}
use Rattle.lists.specs.Rows.{up_from}
use Rattle.lists.specs.Tests.{and, all}
use Rattle.proposals.specs.Records.{flag_good, flags_good}

-- tests of the numbers from one on, where each is that of the number before
all-later : (f g : ℕ → Bool) (n m : ℕ) → ((k : ℕ) → f (suc k) ≡ g k) → all f (up_from (suc m) n) ≡ all g (up_from m n)
all-later f g zero m h = refl
all-later f g (suc n) m h = ap₂ and (h m) (all-later f g n (suc m) h)

-- a record and those behind it
pub flags_next : (records first later : List ℕ) → records ≡ first ++ later → length first ≡ 16 →
    flags_good records (length records / 16) ≡ and (leb (get_or first 15 0) 1) (flags_good later (length later / 16))
flags_next records first later e h =
    let n : ℕ = length later / 16 in
    let many : length (first ++ later) / 16 ≡ suc n = rw length-append (omega arith) in
    let own : leb (get_or (first ++ later) 15 0) 1 ≡ leb (get_or first 15 0) 1 =
    ap (λ (b : ℕ). leb b 1) (get_or-append first later 0 15 (omega arith)) in
    let behind : (k : ℕ) → flag_good (first ++ later) (suc k) ≡ flag_good later k =
    λ k. ap (λ (b : ℕ). leb b 1)
    (get_or-append_right first later 16 (suc k * 16 + 15) 0 h (omega arith)
    ∙ ap (λ (i : ℕ). get_or later i 0) (omega arith)) in
    rw (e, many) (ap₂ and own (all-later (flag_good (first ++ later)) (flag_good later) n 0 behind))
