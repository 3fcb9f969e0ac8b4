-- Khronos Data Format Specification, BPTC: what a block holds, and how wide each field is. A field of no bits has width 0.
use Rattle.std.specs.Prelude.{ℕ, suc, ◌+◌, ◌-◌, ◌*◌, ◌/◌, ◌%◌, ◌^◌, ◌<◌, ◌≤◌, ◌≡◌, List, ◌∷◌, ◌++◌, map, eqb, ltb, get_or, length, drop, replicate}
use Rattle.lists.specs.Tests.{pick, and}
use Rattle.lists.specs.Rows.{up_from}
use Rattle.bptc.specs.Mode.{Mode, endpoints, p_bits, largest}
use Rattle.bptc.specs.Partition.{subset_in, anchor_in}
use Rattle.bptc.specs.Colour.{Rgba, colour_by, channel, clear, rgb_of, without_alpha}
use Rattle.bptc_block.specs.declared.Fields.{Fields}

-- partition, stored endpoints of four channels, p-bits as one number, and the sixteen full indices; endpoints 2s and 2s + 1 are subset s's
pub record BlockFields : Type 0 where
  pub partition : ℕ
  pub ends : List Rgba
  pub p : ℕ
  pub indices : List ℕ

-- fields of three channels
abbrev pub block_fields : Fields → BlockFields
block_fields f = record { partition = f.partition; ends = without_alpha f.ends; p = f.p; indices = f.indices }

-- the fields of three channels, whatever the alphas
abbrev pub rgb_fields : BlockFields → Fields
rgb_fields f = record { partition = f.partition; ends = map rgb_of f.ends; p = f.p; indices = f.indices }

-- the places for endpoints: as many as the modes have at most
abbrev pub places : ℕ
places = 4

-- an index has a bit less where pixel i is the anchor of its own subset
unfoldable pub index_width : Mode → ℕ → ℕ → ℕ
index_width m part i = pick (eqb i (anchor_in m part (subset_in m part i))) (m.index_bits - 1) m.index_bits

-- fields in range: the index of pixel i is below a limit of its own
pub record Within (m : Mode) (index : ℕ → ℕ) (f : BlockFields) : Type 0 where
  pub partition : f.partition < 2 ^ m.partition_bits
  pub room : length f.ends ≡ places
  pub channels : (k : ℕ) → k < endpoints m → (j : ℕ) → j < m.channels → channel j (get_or f.ends k clear) < 2 ^ m.channel_bits
  pub p : f.p < 2 ^ p_bits m
  pub sixteen : length f.indices ≡ 16
  pub indices : (i : ℕ) → i < 16 → get_or f.indices i 0 < index i

-- fields that may be packed: every index up to the largest
abbrev pub Plain : Mode → BlockFields → Type 0
Plain m f = Within m (λ (i : ℕ). suc (largest m)) f

-- what a mode does not look at is 0: the alpha of a mode without it, and the endpoints past its subsets
pub record Clean (m : Mode) (f : BlockFields) : Type 0 where
  pub alpha : (k j : ℕ) → m.channels ≤ j → channel j (get_or f.ends k clear) ≡ 0
  pub later : (k j : ℕ) → endpoints m ≤ k → channel j (get_or f.ends k clear) ≡ 0

-- fields that a block can hold as they stand: the anchors' indices have their top bit 0, and nothing is there that it cannot hold
pub record WellFormed (m : Mode) (f : BlockFields) : Type 0 where
  pub within : Within m (λ (i : ℕ). 2 ^ index_width m f.partition i) f
  pub clean : Clean m f

-- the number of stored channels
abbrev pub stores : Mode → ℕ
stores m = m.channels * endpoints m

-- the widths of a block's fields, from the lowest bit: mode, partition, channels, p-bits, indices
unfoldable pub widths : Mode → ℕ → List ℕ
widths m part =
    (m.number + 1) ∷ (m.partition_bits ∷ (replicate (stores m) m.channel_bits ++ (p_bits m ∷ map (index_width m part) (up_from 0 16))))

-- the reds of all endpoints, then their greens, blues and alphas
unfoldable pub channel_values : Mode → List Rgba → List ℕ
channel_values m ends = map (λ (x : ℕ). channel (x / endpoints m) (get_or ends (x % endpoints m) clear)) (up_from 0 (stores m))

-- the values of a block's fields, in the same order
unfoldable pub values : Mode → BlockFields → List ℕ
values m f = (2 ^ m.number) ∷ (f.partition ∷ (channel_values m f.ends ++ (f.p ∷ f.indices)))

-- channel j of endpoint k in such values: 0 where the mode has none
unfoldable pub value_at : Mode → List ℕ → ℕ → ℕ → ℕ
value_at m vs k j = pick (and (ltb k (endpoints m)) (ltb j m.channels)) (get_or vs (2 + (j * endpoints m + k)) 0) 0

-- the fields that such values make
unfoldable pub made : Mode → List ℕ → BlockFields
made m vs =
    record {
      partition = get_or vs 1 0;
      ends = map (λ (k : ℕ). colour_by (value_at m vs k)) (up_from 0 places);
      p = get_or vs (2 + stores m) 0;
      indices = drop (3 + stores m) vs;
    }
