-- What a candidate is that passes its checks.
use Prim.Native.Nat.{ℕ, zero, suc, ◌+◌, ◌*◌, ◌/◌, ◌%◌, ◌^◌, ◌<◌}
use native.Mathlib.Nat.{mod-lt, div-lt_iff_lt-mul}
use native.Mathlib.Omega.{arith}
use mathlib.Core.Path.{◌≡◌, refl, sym, ◌∙◌, subst}
use mathlib.Core.Bool.{Bool, true, false}
use mathlib.Core.Logic.{◌⊎◌, inl, inr}
use mathlib.Core.List.{List, [], ◌∷◌}
use lib.Dec.{eqb, ltb}
use lib.ListN.{length, get_or}
use borrow.Author.Tests.{eqb-true, eq-eqb, ltb-true, lt-ltb}
use Rattle.lists.specs.Tests.{pick}
use Rattle.lists.proofs.Tests.{pick_elim, and-true}
use Rattle.lists.proofs.Rows.{get_or-each}
use Rattle.bptc.specs.Mode.{Mode, mode_numbered, endpoints, p_bits}
use Rattle.bptc.specs.Colour.{Rgba, clear, channel}
use Rattle.bptc.proofs.Modes.{each_mode}
use Rattle.bptc_block.specs.declared.PBits.{PBits}
use Rattle.bptc_block.specs.declared.PBits.TheVariants.{Free, Fixed}
use Rattle.bptc_block.specs.declared.Candidate.{Candidate}
use Rattle.bptc_block.specs.RgbaCandidate.{RgbaCandidate, rgba_candidate}
use Rattle.bptc_block.specs.Fields.{places, stores, channel_values}
use Rattle.bptc_block.specs.Limits.{Limits, limits, limits_for, BitsWithin, RgbaWithin, CandidateInRange}
use Rattle.bptc_block.specs.Refusal.{unless, is_mode, below, p_below, check_rgba}
use Rattle.bptc_block.proofs.Modes.{Lawful, lawful, limits_of}
use Rattle.bptc_block.proofs.Widths.{channels-length, channel-value, place_lt}
use Rattle.bptc_block.proofs.Finishing.{Good}

-- the number in an answer: 0 where nothing is declined, and else the refusal's
pub number_said : {A : Type 0} (number : A → ℕ) (r : ℕ) {a b : A} → number a ≡ 0 → number b ≡ r → number (pick (eqb r 0) a b) ≡ r
number_said {A} number r none some = pick_elim (λ (x : A). number x ≡ r) (eqb r 0) (λ t. none ∙ sym (eqb-true r 0 t)) (λ t. some)

-- a check that declines nothing
pub passed : (t : Bool) (k rest : ℕ) → unless t (suc k) rest ≡ 0 → (t ≡ true) × (rest ≡ 0)
passed true k rest e = (refl, e)
passed false k rest e = absurd (omega arith)

-- two checks that decline do so whatever the later ones give
pub declined : (t u : Bool) (k l rest : ℕ) → (unless t k (unless u l 0) ≡ 0 → ⊥) → unless t k (unless u l 0) ≡ unless t k (unless u l rest)
declined true true k l rest ne = absurd (ne refl)
declined true false k l rest ne = refl
declined false u k l rest ne = refl

-- the number of a mode
abbrev pub Known : ℕ → Type 0
Known n = (n ≡ 1) ⊎ (n ≡ 3)

-- what the test of it says
pub one_or_three : (n : ℕ) → is_mode n ≡ true → Known n
one_or_three n e = each_mode (λ (m : Mode). m.number ≡ n → Known n) (λ q. inl (sym q)) (λ q. inr (sym q)) n (eqb-true (mode_numbered n).number n e)

-- and back
pub is_mode_lem : (n : ℕ) → Known n → is_mode n ≡ true
unfolding mode_numbered
is_mode_lem n (inl e) = rw e
is_mode_lem n (inr e) = rw e

-- a number that is neither
pub other_mode : (n : ℕ) → (n ≡ 1 → ⊥) → (n ≡ 3 → ⊥) → is_mode n ≡ false
other_mode n one three = go (is_mode n) refl
  where
    go : (t : Bool) → is_mode n ≡ t → t ≡ false
    go false e = refl
    go true e = absurd (neither (one_or_three n e))
      where
        neither : Known n → ⊥
        neither (inl e) = one e
        neither (inr e) = three e

-- the mode of such a number has it
pub own-number : (n : ℕ) → Known n → (mode_numbered n).number ≡ n
own-number n known = eqb-true (mode_numbered n).number n (is_mode_lem n known)

-- its row of the table says what its record says
pub row-known : (n : ℕ) → Known n → limits_for n limits ≡ limits_of (mode_numbered n)
unfolding mode_numbered
row-known n (inl e) = rw e
row-known n (inr e) = rw e

-- numbers of a list: the test and what it says
pub all-below : (top : ℕ) (vs : List ℕ) → below top vs ≡ true → (i : ℕ) → i < length vs → get_or vs i 0 < top
all-below top [] e i h = absurd (omega arith)
all-below top (v ∷ vs) e zero h = ltb-true v top (and-true (ltb v top) _ e).0
all-below top (v ∷ vs) e (suc i) h = all-below top vs (and-true (ltb v top) _ e).1 i (omega arith)

-- and back
pub below_all : (top : ℕ) (vs : List ℕ) → ((i : ℕ) → i < length vs → get_or vs i 0 < top) → below top vs ≡ true
below_all top [] h = refl
below_all top (v ∷ vs) h = rw (lt-ltb v top (h 0 (omega arith))) (below_all top vs (λ i l. h (suc i) (omega arith)))

-- p-bits: the test and what it says
pub bits_in_lem : (top : ℕ) (ps : PBits) → p_below top ps ≡ true → BitsWithin top ps
bits_in_lem top Free e = tt
bits_in_lem top (Fixed p) e = ltb-true p top e

-- and back
pub in_bits : (top : ℕ) (ps : PBits) → BitsWithin top ps → p_below top ps ≡ true
in_bits top Free h = refl
in_bits top (Fixed p) h = lt-ltb p top h

module _ (m : Mode) (law : Lawful m) (ends : List Rgba) where
  -- every channel that the mode looks at
  pub channels_in : below (2 ^ m.channel_bits) (channel_values m ends) ≡ true → (k : ℕ) → k < endpoints m → (j : ℕ) → j < m.channels → channel j (get_or ends k clear) < 2 ^ m.channel_bits
  channels_in e k hk j hj =
      let x : ℕ = j * endpoints m + k in
      let inside : x < length (channel_values m ends) = rw (channels-length m law ends) (place_lt m law j k hj hk) in
      subst (λ (v : ℕ). v < 2 ^ m.channel_bits) (channel-value m law ends j k hj hk) (all-below (2 ^ m.channel_bits) (channel_values m ends) e x inside)

  -- and back
  pub in_channels : ((k : ℕ) → k < endpoints m → (j : ℕ) → j < m.channels → channel j (get_or ends k clear) < 2 ^ m.channel_bits) → below (2 ^ m.channel_bits) (channel_values m ends) ≡ true
  unfolding channel_values
  in_channels h = below_all (2 ^ m.channel_bits) (channel_values m ends) each
    where
      each : (i : ℕ) → i < length (channel_values m ends) → get_or (channel_values m ends) i 0 < 2 ^ m.channel_bits
      each i l =
          let inside : i < stores m = rw (channels-length m law ends) at l in
          let some : 0 < endpoints m = omega (arith, law.some) in
          rw (get_or-each 0 (λ (x : ℕ). channel (x / endpoints m) (get_or ends (x % endpoints m) clear)) (stores m) i inside)
          (h (i % endpoints m) (mod-lt i some) (i / endpoints m) ((div-lt_iff_lt-mul some).1 inside))

-- a candidate that passes is good, and the later checks decide
pub good : (c : RgbaCandidate) (rest : ℕ) → length c.ends ≡ places → check_rgba c rest ≡ 0 → Good c × (rest ≡ 0)
unfolding check_rgba
good c rest long e =
    let m : Mode = mode_numbered c.mode in
    let (mode, e₁) = passed (is_mode c.mode) 2 _ e in
    let (part, e₂) = passed (ltb c.partition (2 ^ m.partition_bits)) 3 _ e₁ in
    let (ends, e₃) = passed (below (2 ^ m.channel_bits) (channel_values m c.ends)) 4 _ e₂ in
    let (p, e₄) = passed (p_below (2 ^ p_bits m) c.p) 5 rest e₃ in (
      record {
        mode = eqb-true m.number c.mode mode;
        partition = ltb-true c.partition _ part;
        room = long;
        stored = channels_in m (lawful c.mode) c.ends ends;
        p = bits_in_lem (2 ^ p_bits m) c.p p;
      },
      e₄,
    )

-- and back: its checks decline nothing
pub checked : (c : RgbaCandidate) (rest : ℕ) → Good c → check_rgba c rest ≡ rest
unfolding check_rgba
checked c rest g =
    let m : Mode = mode_numbered c.mode in
    rw (
      eq-eqb m.number c.mode g.mode,
      lt-ltb c.partition (2 ^ m.partition_bits) g.partition,
      in_channels m (lawful c.mode) c.ends g.stored,
      in_bits (2 ^ p_bits m) c.p g.p,
    )

-- a candidate in range is of a known mode, and its candidate is good
pub candidate_good : (c : Candidate) → CandidateInRange c → Known c.mode × Good (rgba_candidate c)
candidate_good c (known, within) =
    let w : RgbaWithin (limits_of (mode_numbered c.mode)) (rgba_candidate c) =
    subst (λ (row : Limits). RgbaWithin row (rgba_candidate c)) (row-known c.mode known) within in
    (known, record { mode = own-number c.mode known; partition = w.partition; room = w.room; stored = w.channels; p = w.p })
