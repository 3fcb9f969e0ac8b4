-- The search's numbers, made from both palettes.
use Rattle.std.specs.Prelude.{ℕ, ◌-◌, ◌/◌, ◌%◌, List, [], ◌∷◌, ◌++◌, map, ltb, get_or}
use Rattle.lists.specs.Tests.{pick}
use Rattle.lists.specs.Rows.{up_from}
use Rattle.bptc.specs.Internal.Palette.{word_at}
use Rattle.bptc.specs.declared.Rgb.{Rgb}
use Rattle.bptc.specs.declared.Colour.{Colour}
use Rattle.keys.specs.Keys.{own_of, step_of}

-- both rows, one after the other
unfoldable pub flat_rows : List (List Colour) → List ℕ
flat_rows rows = map (λ (k : ℕ). word_at rows (k / 8) (k % 8)) (up_from 0 16)

-- the number of colour j of a row
abbrev pub row_word : List Colour → ℕ → ℕ
row_word row j = (get_or row j (record { 0 = 0 })).0

-- four rows, index by index
unfoldable pub column_words : List Colour → List Colour → List Colour → List Colour → ℕ → ℕ
column_words a b c d k = row_word (get_or (a ∷ (b ∷ (c ∷ (d ∷ [])))) (k % 4) []) (k / 4)

-- sixteen numbers, and sixteen after them
unfoldable pub joined_rows : List ℕ → List ℕ → ℕ → ℕ
joined_rows first second k = pick (ltb k 16) (get_or first k 0) (get_or second (k - 16) 0)

-- the first four colours of subset s of four pairs of rows
abbrev pub words_of : List (List Colour) → List (List Colour) → List (List Colour) → List (List Colour) → ℕ → List ℕ
words_of a b c d s = map (column_words (get_or a s []) (get_or b s []) (get_or c s []) (get_or d s [])) (up_from 0 16)

-- of both subsets
unfoldable pub flat_columns : List (List Colour) → List (List Colour) → List (List Colour) → List (List Colour) → List ℕ
flat_columns a b c d = map (joined_rows (words_of a b c d 0) (words_of a b c d 1)) (up_from 0 32)

-- the steps of n channels, at a scale
abbrev pub steps_of : ℕ → ℕ → (ℕ → ℕ) → List ℕ
steps_of scale n channel = map (λ (k : ℕ). step_of scale (channel k)) (up_from 0 n)

-- the rest of the keys of n colours, each with its index
abbrev pub owns_of : ℕ → ℕ → (ℕ → Rgb) → (ℕ → ℕ) → List ℕ
owns_of scale n colour index = map (λ (k : ℕ). own_of scale (colour k) (index k)) (up_from 0 n)

-- the numbers of n colours, each with its index, at a scale: all reds, greens and blues, and the rest
unfoldable pub numbers_of : ℕ → ℕ → (ℕ → Rgb) → (ℕ → ℕ) → List ℕ
numbers_of scale n colour index =
    steps_of scale n (λ (k : ℕ). (colour k).r)
    ++ (steps_of scale n (λ (k : ℕ). (colour k).g) ++ (steps_of scale n (λ (k : ℕ). (colour k).b) ++ owns_of scale n colour index))
