-- The words of a command line: bytes in which a 0 byte ends each word.
use Rattle.std.specs.Prelude.{ℕ, zero, suc, Bool, not, List, [], ◌∷◌, leb, eqb, take}
use Rattle.std.specs.List.{prefix_len}
use Rattle.lists.specs.Tests.{pick}

-- how many words a line has: its 0 bytes
abbrev pub words_in : List ℕ → ℕ
words_in [] = 0
words_in (b ∷ bs) = pick (eqb b 0) (suc (words_in bs)) (words_in bs)

-- whether a byte belongs to a word
abbrev pub in_word : ℕ → Bool
in_word b = not (eqb b 0)

-- the bytes before the first 0 byte: all where there is none
abbrev pub first_word : List ℕ → List ℕ
first_word bs = take (prefix_len in_word bs) bs

-- the bytes of word k, of a line that has it
abbrev pub word_from : List ℕ → ℕ → List ℕ
word_from bs zero = first_word bs
word_from [] (suc k) = []
word_from (b ∷ bs) (suc k) = pick (eqb b 0) (word_from bs k) (word_from bs (suc k))

-- word k of a line without its 0 byte; empty where there is none
unfoldable pub word_of : List ℕ → ℕ → List ℕ
word_of line k = pick (leb (words_in line) k) [] (word_from line k)

-- a byte in front of the first word, where there is one
abbrev pub lengthen : ℕ → List (List ℕ) → List (List ℕ)
lengthen b [] = []
lengthen b (w ∷ ws) = (b ∷ w) ∷ ws

-- the words of a line, in order
abbrev pub line_words : List ℕ → List (List ℕ)
line_words [] = []
line_words (b ∷ bs) = pick (eqb b 0) ([] ∷ line_words bs) (lengthen b (line_words bs))
