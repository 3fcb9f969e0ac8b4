-- Blocks among the worst stand in the order of their keys.
use Rattle.std.proofs.Common.{ℕ, true, false, ◌≤◌, ◌<◌, ◌≡◌, refl, arith}
use Rattle.std.specs.Prelude.{Option, Some, None}
use Rattle.std.specs.declared.cmp.Ordering.{Ordering}
use Rattle.std.specs.Option.{option_cmp, option_partial_cmp}
use Rattle.std.specs.Ordering.{MatchOrdering, nat_cmp, ordering_then, partial_lt}
use Rattle.std.proofs.lemmas.Cmp.{ranked, by_ranked}
use Rattle.figures.specs.declared.entry.Entry.{Entry}
use Rattle.figures.specs.contracts.entry.EntryOrd.TheImpl.{cmp-value}
use Rattle.figures.specs.contracts.entry.EntryOrd.TheImpl.Laws.{matches_partial_cmp-law}
use Rattle.figures.specs.contracts.entry.EntryPartialOrd.TheImpl.{partial_cmp-value}
use Rattle.figures.specs.Entries.{key_in, EntryParts}

-- how numbers a and b stand where x and y decide it, and what follows where these are equal
first_by : (x y a b : ℕ) (o : Ordering) → (x < y → a < b) → (y < x → b < a) → (x ≡ y → MatchOrdering o (a < b) (a ≡ b) (b < a)) →
    MatchOrdering (ordering_then (nat_cmp x y) o) (a < b) (a ≡ b) (b < a)
first_by x y a b o less more then =
    by_ranked (x < y) (x ≡ y) (y < x) (nat_cmp x y) (ranked x y (nat_cmp x y) refl) (λ is p. rw is (less p)) (λ is q. rw is (then q)) (λ is r. rw is (more r))

-- the order of blocks and of empty places
abbrev cmp : Option Entry → Option Entry → Ordering
cmp = option_cmp cmp-value.it

-- is that of their keys
by_key : (a b : Option Entry) → MatchOrdering (cmp a b) (key_in a < key_in b) (key_in a ≡ key_in b) (key_in b < key_in a)
by_key None None = refl
by_key None (Some f) = omega arith
by_key (Some e) None = omega arith
by_key (Some e) (Some f) =
    first_by e.error f.error (key_in (Some e)) (key_in (Some f)) _ (λ h. omega arith) (λ h. omega arith)
    (λ s. first_by f.number.0 e.number.0 (key_in (Some e)) (key_in (Some f)) _ (λ h. omega (arith, e.counted)) (λ h. omega (arith, f.counted))
    (λ t. first_by e.mode f.mode (key_in (Some e)) (key_in (Some f)) _ (λ h. omega (arith, e.known, f.known)) (λ h. omega (arith, e.known, f.known))
    (λ u. by_ranked (e.partition < f.partition) (e.partition ≡ f.partition) (f.partition < e.partition) (nat_cmp e.partition f.partition)
    (ranked e.partition f.partition (nat_cmp e.partition f.partition) refl)
    (λ is h. rw is (omega (arith, e.numbered, f.numbered))) (λ is h. rw is (omega arith)) (λ is h. rw is (omega (arith, e.numbered, f.numbered))))))

-- `<` is that order
less_is : (a b : Option Entry) → option_partial_cmp partial_cmp-value.it a b ≡ Some (cmp a b)
less_is None None = refl
less_is None (Some f) = refl
less_is (Some e) None = refl
less_is (Some e) (Some f) = matches_partial_cmp-law e f

-- a place that is less than another has a lesser key
pub key_less : (a b : Option Entry) → partial_lt (option_partial_cmp partial_cmp-value.it) a b ≡ true → key_in a < key_in b
key_less a b =
    rw less_is
    (by_ranked (key_in a < key_in b) (key_in a ≡ key_in b) (key_in b < key_in a) (cmp a b) (by_key a b)
    (λ is h. λ t. h) (λ is h. rw is (λ t. absurd cc)) (λ is h. rw is (λ t. absurd cc)))

-- and one that is not has no lesser key
pub key_least : (a b : Option Entry) → partial_lt (option_partial_cmp partial_cmp-value.it) a b ≡ false → key_in b ≤ key_in a
key_least a b =
    rw less_is
    (by_ranked (key_in a < key_in b) (key_in a ≡ key_in b) (key_in b < key_in a) (cmp a b) (by_key a b)
    (λ is h. rw is (λ t. absurd cc)) (λ is h. λ t. omega arith) (λ is h. λ t. omega arith))

-- the key of a block gives back its parts
pub entry_parts : EntryParts
entry_parts e = record {
  its_error = omega (arith, e.counted);
  its_number = omega (arith, e.counted);
  its_mode = omega (arith, e.known);
  its_partition = omega (arith, e.numbered);
  some = omega arith;
}
