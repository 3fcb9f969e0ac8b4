-- The answers of the calls, by the numbers that their checks give.
use Prim.Native.Nat.{ℕ, ◌-◌, ◌^◌}
use mathlib.Core.Path.{◌≡◌, refl, sym, ap, ap₂, ◌∙◌, subst}
use mathlib.Core.Bool.{Bool, true, false}
use mathlib.Core.List.{List, [], ◌∷◌}
use lib.Dec.{eqb, leb, ltb}
use lib.ListN.{length}
use borrow.Author.Tests.{eq-eqb, ne_eqb}
use Rattle.std.proofs.Common.{Ok, Err, ◌&&◌}
use Rattle.std.specs.List.{list_all}
use Rattle.lists.specs.Tests.{pick, and, all}
use Rattle.refusals.specs.declared.Refusal.{Refusal}
use Rattle.refusals.specs.Numbers.{number_of}
use Rattle.refusals.proofs.Numbers.{some_number}
use Rattle.bptc.specs.declared.Rgb.{Rgb}
use Rattle.bptc.specs.Mode.{Mode, IsMode, mode_numbered, p_bits, largest}
use Rattle.bptc.specs.Colour.{without_alpha, pixels_of, pixel_bytes, squared_distance}
use Rattle.bptc.proofs.Modes as M
use Rattle.bptc.proofs.Modes.{mode_of_number}
use Rattle.bptc_block.specs.declared.PBits.{PBits}
use Rattle.bptc_block.specs.declared.PBits.TheVariants.{Fixed}
use Rattle.bptc_block.specs.declared.Candidate.{Candidate}
use Rattle.bptc_block.specs.declared.Fields.{Fields}
use Rattle.bptc_block.specs.Refusal.{unless, is_mode, below, p_below, check_rgba, check_candidate, check_indices, check_pixels, check_block, check_readable}
use Rattle.bptc_block.specs.Internal.RgbChecks.{check_stored}
use Rattle.bptc_block.specs.Answers.{finished, measured, block_read}
use Rattle.bptc_block.specs.Packed.{mode_of, packed, fields_of}
use Rattle.bptc_block.specs.Exchange.{compressed}
use Rattle.bptc_block.specs.Fields.{block_fields, rgb_fields, channel_values, Plain}
use Rattle.bptc_block.specs.Chapter.{colours, apart, block_apart}
use Rattle.bptc_block.specs.Finish.{finish}
use Rattle.bptc_block.specs.PackCall.{fixed_at, pack_of, pack_into}
use Rattle.bptc_block.specs.FinishCall.{finish_refusal, finish_of, finish_into}
use Rattle.bptc_block.specs.ReadCall.{read_refusal, read_of, read_into}
use Rattle.bptc_block.specs.MeasureCall.{measure_of}
use Rattle.bptc_block.proofs.FinishCall.{finish-declines, finish-declined, finish_leaves, finish-answer, finish-block}
use Rattle.bptc_block.proofs.PackCall.{pack_leaves, pack-block, pack_plain}
use Rattle.bptc_block.proofs.ReadCall.{read_number, read-declined, read_leaves, read_answer_lem, read-pixels, measure-declined, measure-answer}
use Rattle.bptc_block.proofs.Refusals.{Known, own-number, other_mode}
use Rattle.bptc_block.proofs.RgbChecks.{stored_same, indices_same}

-- the library's test of each element
pub each_all : {A : Type 0} (f : A → Bool) (xs : List A) → list_all f xs ≡ all f xs
each_all f [] = refl
each_all f (x ∷ xs) = go (f x) (each_all f xs)
  where
    go : (t : Bool) → list_all f xs ≡ all f xs → (t && list_all f xs) ≡ and t (all f xs)
    go true e = e
    go false e = refl

-- the same of a candidate's checks
pub candidate_then : (c : Candidate) (rest : ℕ) → check_candidate c rest ≡ pick (eqb (check_candidate c 0) 0) rest (check_candidate c 0)
unfolding check_rgba
candidate_then c rest =
    let m : Mode = mode_numbered c.mode in
    four (is_mode c.mode) (ltb c.partition (2 ^ m.partition_bits)) (below (2 ^ m.channel_bits) (channel_values m (without_alpha c.ends))) (p_below (2 ^ p_bits m) c.p)
  where
    four : (t u v w : Bool) →
        unless t 3 (unless u 4 (unless v 5 (unless w 6 rest)))
        ≡ pick (eqb (unless t 3 (unless u 4 (unless v 5 (unless w 6 0)))) 0) rest (unless t 3 (unless u 4 (unless v 5 (unless w 6 0))))
    four false u v w = refl
    four true false v w = refl
    four true true false w = refl
    four true true true false = refl
    four true true true true = refl

-- of a mode by its number, with the code's checks of what it stores
pub candidate_stored : (m : Mode) → IsMode m → (part : ℕ) (ends : List Rgb) (ps : PBits) (rest : ℕ) → length ends ≡ 4 →
    check_stored (2 ^ m.channel_bits - 1) (2 ^ p_bits m - 1) part ends ps rest ≡ check_candidate (record { mode = m.number; partition = part; ends = ends; p = ps }) rest
unfolding check_rgba
candidate_stored m is part ends ps rest long =
    stored_same m is part ends ps rest long
    ∙ ap₂ (λ (t : Bool) (m : Mode).
    unless t 3
    (unless (ltb part (2 ^ m.partition_bits)) 4
    (unless (below (2 ^ m.channel_bits) (channel_values m (without_alpha ends))) 5 (unless (p_below (2 ^ p_bits m) ps) 6 rest))))
    (sym (eq-eqb _ m.number (ap (λ (m : Mode). m.number) (mode_of_number m is)))) (sym (mode_of_number m is))

-- of a number that is none's
pub other_candidate : (c : Candidate) (rest : ℕ) → (c.mode ≡ 1 → ⊥) → (c.mode ≡ 3 → ⊥) → 3 ≡ check_candidate c rest
unfolding check_rgba
other_candidate c rest one three = rw (other_mode c.mode one three)

-- of a number that is a mode's
pub known_stored : (mode : ℕ) → Known mode → (part : ℕ) (ends : List Rgb) (ps : PBits) (rest : ℕ) → length ends ≡ 4 →
    check_stored (2 ^ (mode_numbered mode).channel_bits - 1) (2 ^ p_bits (mode_numbered mode) - 1) part ends ps rest
    ≡ check_candidate (record { mode = mode; partition = part; ends = ends; p = ps }) rest
known_stored mode known part ends ps rest four =
    candidate_stored (mode_numbered mode) (M.is_mode mode) part ends ps rest four
    ∙ ap (λ (n : ℕ). check_candidate (record { mode = n; partition = part; ends = ends; p = ps }) rest) (own-number mode known)

-- a call declines by the number of a refusal, which is not 0
module _ (r : Refusal) (n : ℕ) (e : number_of r ≡ n) where
  pub declines_by : n ≡ 0 → ⊥
  declines_by z = some_number r (e ∙ z)

-- what the answers of declined calls stand for
module _ (r : Refusal) (block px : List ℕ) where
  pub finish_err : (c : Candidate) → number_of r ≡ finish_refusal px c block → finished (Err r) ≡ finish_of px c block
  finish_err c e = rw e (sym (finish-declined px c block (declines_by r _ e)))

  pub read_err : number_of r ≡ read_refusal block px → block_read (Err r) ≡ read_of block px
  read_err e = rw e (sym (read-declined block px (declines_by r _ e)))

  pub measure_err : number_of r ≡ read_refusal block px → measured (Err r) ≡ measure_of block px
  measure_err e = rw e (sym (measure-declined block px (declines_by r _ e)))

  -- and the lent parts, which stay as they were
  pub finish_left : (c : Candidate) → number_of r ≡ finish_refusal px c block → block ≡ finish_into px c block
  finish_left c e = sym (finish_leaves px c block (declines_by r _ e))

  pub read_left : number_of r ≡ read_refusal block px → px ≡ read_into block px
  read_left e = sym (read_leaves block px (λ z. declines_by r _ e (sym (read_number block px) ∙ z)))

-- the same of `pack`
pub pack_left : (r : Refusal) (mode : ℕ) (f : Fields) (block : List ℕ) → number_of r ≡ pack_of mode f block → block ≡ pack_into mode f block
pack_left r mode f block e = sym (pack_leaves mode f block (declines_by r _ e))

-- a pixel part of another length declines, whatever comes after
other_pixels : (px : List ℕ) (rest : ℕ) → (length px ≡ 48 → ⊥) → 1 ≡ check_pixels (length px) rest
other_pixels px rest ne = rw (ne_eqb (length px) 48 ne)

-- then a block part
other_block : (px block : List ℕ) (rest : ℕ) → length px ≡ 48 → (length block ≡ 16 → ⊥) → 2 ≡ check_pixels (length px) (check_block (length block) rest)
other_block px block rest p ne = rw (eq-eqb (length px) 48 p, ne_eqb (length block) 16 ne)

-- and over parts of their lengths the later checks decide
by_rest : (px block : List ℕ) (rest : ℕ) → length px ≡ 48 → length block ≡ 16 → rest ≡ check_pixels (length px) (check_block (length block) rest)
by_rest px block rest p b = rw (eq-eqb (length px) 48 p, eq-eqb (length block) 16 b)

-- the checks of `finish`, one after the other
module _ (px block : List ℕ) (c : Candidate) where
  pub finish_pixels : (length px ≡ 48 → ⊥) → 1 ≡ finish_refusal px c block
  unfolding finish_refusal
  finish_pixels = other_pixels px _

  pub finish_parts : length px ≡ 48 → (length block ≡ 16 → ⊥) → 2 ≡ finish_refusal px c block
  unfolding finish_refusal
  finish_parts = other_block px block _

  module _ (p : length px ≡ 48) (b : length block ≡ 16) where
    pub finish_rest : check_candidate c 0 ≡ finish_refusal px c block
    unfolding finish_refusal
    finish_rest = by_rest px block _ p b

    -- what it gives and writes where they accept the candidate
    module _ (accepted : check_candidate c 0 ≡ 0) where
      ok : (finish_of px c block).refusal ≡ 0
      ok = finish-declines px c block p b ∙ accepted

      pub finish_ok : {n : ℕ} → n ≡ (finish px c).error → finished (Ok n) ≡ finish_of px c block
      finish_ok e = rw e (sym (finish-answer px c block ok))

      pub finish_written : {bs : List ℕ} → bs ≡ (finish px c).block → bs ≡ finish_into px c block
      finish_written e = e ∙ sym (finish-block px c block ok)

-- those of `read` and `measure`
module _ (block px : List ℕ) where
  pub read_pixels : (length px ≡ 48 → ⊥) → 1 ≡ read_refusal block px
  unfolding read_refusal
  read_pixels = other_pixels px _

  pub read_parts : length px ≡ 48 → (length block ≡ 16 → ⊥) → 2 ≡ read_refusal block px
  unfolding read_refusal
  read_parts = other_block px block _

  module _ (p : length px ≡ 48) (b : length block ≡ 16) where
    pub read_rest : check_readable block 0 ≡ read_refusal block px
    unfolding read_refusal
    read_rest = by_rest px block _ p b

    -- what they give and write where the block can be read
    module _ (readable : check_readable block 0 ≡ 0) (m : Mode) {mode : ℕ} (own : mode ≡ mode_of block) (same : mode_numbered mode ≡ m) where
      none : (read_of block px).refusal ≡ 0
      none = read_number block px ∙ sym read_rest ∙ readable

      is : mode_numbered (mode_of block) ≡ m
      is = rw own at same

      pub read_ok : {f : Fields} → f ≡ rgb_fields (fields_of m block) → block_read (Ok (record { mode = mode; fields = f })) ≡ read_of block px
      read_ok e = rw (e, own) (sym (rw is at (read_answer_lem block px none)))

      pub read_written : {bs : List ℕ} → bs ≡ pixel_bytes 3 (colours m (fields_of m block)) → bs ≡ read_into block px
      read_written e = e ∙ sym (rw is at (read-pixels block px none))

      pub measure_ok : {n : ℕ} → n ≡ apart squared_distance m (pixels_of 3 px) (fields_of m block) → measured (Ok n) ≡ measure_of block px
      unfolding block_apart
      measure_ok e = rw (e, ← is) (sym (measure-answer block px none))

-- those of `pack`
module _ (f : Fields) (block : List ℕ) where
  pub pack_part : (mode : ℕ) → (length block ≡ 16 → ⊥) → 2 ≡ pack_of mode f block
  unfolding pack_of
  pack_part mode ne = rw (ne_eqb (length block) 16 ne)

  module _ (b : length block ≡ 16) where
    pub pack_mode : (mode : ℕ) → (mode ≡ 1 → ⊥) → (mode ≡ 3 → ⊥) → 3 ≡ pack_of mode f block
    unfolding pack_of check_rgba
    pack_mode mode one three = rw (eq-eqb (length block) 16 b, other_mode mode one three)

    -- by the numbers of the two groups of checks of a mode
    pub pack_stored : (m : Mode) → IsMode m → length f.ends ≡ 4 → {stored indices : ℕ} →
        stored ≡ check_stored (2 ^ m.channel_bits - 1) (2 ^ p_bits m - 1) f.partition f.ends (Fixed f.p) 0 →
        indices ≡ unless (list_all (λ (i : ℕ). leb i (largest m)) f.indices) 7 0 → pick (eqb stored 0) indices stored ≡ pack_of m.number f block
    unfolding pack_of
    pack_stored m known four {stored} {indices} e k =
        let own : check_candidate (fixed_at m.number f) 0 ≡ stored = sym (e ∙ candidate_stored m known f.partition f.ends (Fixed f.p) 0 four) in
        let rest : check_indices m.number f.indices 0 ≡ indices =
        ap (λ (n : Mode). unless (below (2 ^ n.index_bits) f.indices) 7 0) (mode_of_number m known)
        ∙ ap (λ (t : Bool). unless t 7 0) (sym (each_all (λ (i : ℕ). leb i (largest m)) f.indices ∙ indices_same m known f.indices))
        ∙ sym k in
        rw (eq-eqb (length block) 16 b, candidate_then (fixed_at m.number f) (check_indices m.number f.indices 0), own, rest)

  -- what is packed and written where they decline nothing
  module _ (m : Mode) (known : IsMode m) (e : 0 ≡ pack_of m.number f block) where
    pub pack_in_range : length f.ends ≡ 4 → length f.indices ≡ 16 → Plain m (block_fields f)
    pack_in_range four sixteen = subst (λ (m : Mode). Plain m (block_fields f)) (mode_of_number m known) (pack_plain m.number f block (sym e) four sixteen)

    pub pack_written : {bs : List ℕ} → bs ≡ packed m (compressed m (block_fields f)) → bs ≡ pack_into m.number f block
    pack_written own = own ∙ ap (λ (m : Mode). packed m (compressed m (block_fields f))) (sym (mode_of_number m known)) ∙ sym (pack-block m.number f block (sym e))
