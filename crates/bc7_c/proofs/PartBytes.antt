-- Laws of the bytes of a chooser and of fields: written one after the other, and read again.
use Prim.Native.Nat.{ℕ, ◌+◌, ◌^◌, ◌<◌, ◌≤◌}
use native.Mathlib.Omega.{arith}
use mathlib.Core.Path.{◌≡◌, sym, ap, ◌∙◌}
use mathlib.Core.List.{List, [], ◌∷◌, ◌++◌, append-nil, append_assoc}
use lib.ListN.{length, get_or, take, drop, length-append, length-drop, drop_of_length-le, take-append-drop}
use lib.Seq.{take_at, drop_at, take_all, drop-drop, get_or-drop}
use borrow.Rule.Slice.PartMut.{put_mid}
use Rattle.std.proofs.Common.{w32}
use Rattle.std.specs.Int.{to_le_bytes, from_le_bytes}
use Rattle.std.proofs.lemmas.Nat.{le_bytes_4}
use Rattle.lists.specs.Bytes.{Bytes, bytes, number}
use Rattle.lists.proofs.Rows.{listed}
use Rattle.lists.proofs.Bytes.{byte_lt, length-bytes, bytes-bytes, number-bytes, bytes-number, number-four}
use Rattle.bptc.specs.declared.Rgb.{Rgb}
use Rattle.bptc.specs.Internal.Colour.{black, bytes_of}
use Rattle.bptc_block.specs.Answers.{BlockRead}
use Rattle.chooser.specs.declared.Chooser.{Chooser}
use Rattle.bc7_c.specs.Parts.{chooser_bytes, chooser_in, head_bytes}

-- bytes put behind those that are written
put_next : (front mid rest : List ℕ) (a n : ℕ) → length front ≡ a → put_mid a n (front ++ rest) mid ≡ (front ++ mid) ++ drop n rest
put_next front mid rest a n e = rw (take_at front rest a e, drop_at front rest a e) (sym (append_assoc front mid (drop n rest)))

-- the last of them fill a part
pub put_last : (front mid rest : List ℕ) (a n : ℕ) → length front ≡ a → length rest ≤ n → put_mid a n (front ++ rest) mid ≡ front ++ mid
put_last front mid rest a n e l = rw (put_next front mid rest a n e, drop_of_length-le rest l, append-nil)

module _ (part : List ℕ) (whole : length part ≡ 68) where
  -- its error has four bytes
  pub error-four : length (drop 64 part) ≡ 4
  error-four = length-drop 64 part ∙ omega arith

  pub error-bytes : Bytes part → Bytes (drop 64 part)
  error-bytes h i l = rw get_or-drop (h (64 + i) (omega (arith, error-four)))

  -- a chooser by its pieces
  pub chooser_pieces : record { pixels = take 48 part; block = take 16 (drop 48 part); error = number (take 4 (drop 64 part)) } ≡ chooser_in part
  unfolding chooser_in
  chooser_pieces = rw (take_all 4 (drop 64 part) (omega (arith, error-four)))

  -- a chooser's bytes are those that it was made of
  pub bytes_in : Bytes part → chooser_bytes (chooser_in part) ≡ part
  unfolding chooser_bytes chooser_in
  bytes_in h =
      let own : bytes 4 (number (drop 64 part)) ≡ drop 64 part = rw error-four at (bytes-number (drop 64 part) (error-bytes h)) in
      rw (own, ← drop-drop 16 48 part, take-append-drop 16 (drop 48 part), take-append-drop 48 part)

-- a chooser is the one that its bytes stand for
pub in_bytes : (ch : Chooser) → length ch.pixels ≡ 48 → length ch.block ≡ 16 → ch.error < 2 ^ 32 → chooser_in (chooser_bytes ch) ≡ ch
unfolding chooser_bytes chooser_in
in_bytes ch p b e =
    rw (
      ← drop-drop 16 48 (ch.pixels ++ (ch.block ++ bytes 4 ch.error)),
      take_at ch.pixels (ch.block ++ bytes 4 ch.error) 48 p,
      drop_at ch.pixels (ch.block ++ bytes 4 ch.error) 48 p,
      take_at ch.block (bytes 4 ch.error) 16 b,
      drop_at ch.block (bytes 4 ch.error) 16 b,
      number-bytes 4 ch.error e,
    )

-- a chooser put down piece by piece
pub chooser_put : (ch : Chooser) (rest : List ℕ) → length ch.pixels ≡ 48 → length ch.block ≡ 16 → length rest ≡ 20 →
    put_mid 64 4 (put_mid 48 16 (ch.pixels ++ rest) ch.block) (bytes 4 ch.error) ≡ chooser_bytes ch
unfolding chooser_bytes
chooser_put ch rest p b r =
    rw (
      put_next ch.pixels ch.block rest 48 16 p,
      put_last (ch.pixels ++ ch.block) (bytes 4 ch.error) (drop 16 rest) 64 4 (simp length-append (omega arith)) (simp length-drop (omega arith)),
    )
    (append_assoc ch.pixels ch.block (bytes 4 ch.error))

-- the fields before the indices, endpoint by endpoint
pub head_listed : (r : BlockRead) → length r.ends ≡ 4 →
    r.mode ∷ (r.partition ∷ (bytes_of (get_or r.ends 0 black ∷ (get_or r.ends 1 black ∷ (get_or r.ends 2 black ∷ (get_or r.ends 3 black ∷ [])))) ++ (r.p ∷ []))) ≡ head_bytes r
unfolding head_bytes
head_listed r four = ap (λ (es : List Rgb). r.mode ∷ (r.partition ∷ (bytes_of es ++ (r.p ∷ [])))) (listed black r.ends 4 four)

-- the number of four bytes, by the library's word
pub four-number : (bs : List ℕ) → length bs ≡ 4 → from_le_bytes w32 bs ≡ number bs
four-number bs four = number-four bs four

-- and the four bytes of a number
pub four_bytes : (n : ℕ) → n < 2 ^ 32 → to_le_bytes w32 n ≡ bytes 4 n
four_bytes n h =
    le_bytes_4 (bytes 4 n) n (length-bytes 4 n) (byte_lt (bytes 4 n) (bytes-bytes 4 n))
    (sym (four-number (bytes 4 n) (length-bytes 4 n) ∙ number-bytes 4 n h))
