-- A BitStream that writes fields one after the other holds the number that joins them.
use Prim.Native.Nat.{ℕ, ◌+◌, ◌*◌, ◌%◌, ◌^◌, ◌≤◌, ◌<◌}
use native.Mathlib.Nat.{add_comm, add-zero, mul-one, add-mul, mul_assoc, add_assoc}
use native.Mathlib.Omega.{arith}
use mathlib.Core.Path.{◌≡◌, refl, sym, ap, ap₂, ◌∙◌}
use mathlib.Core.Bool.{Bool}
use mathlib.Core.List.{List, [], ◌∷◌, ◌++◌, map}
use lib.Arith.{digits_lt}
use lib.Bits.{bit_or, or_shifted_r}
use lib.ListN.{length, drop, replicate}
use lib.Pow.{pow-add, shl_exact}
use Rattle.lists.specs.Rows.{sum}
use Rattle.lists.specs.Internal.Fields.{Fits, none, more}
use Rattle.lists.specs.Bits.{join}
use Rattle.bptc.specs.declared.Rgb.{Rgb}
use Rattle.bptc.specs.Mode.{Mode, p_bits, IsMode}
use Rattle.bptc.specs.Colour.{without_alpha}
use Rattle.bptc_block.specs.Fields.{stores, channel_values}
use Rattle.bptc_block.specs.Internal.Front.{rgb_values}
use Rattle.bptc_block.proofs.Front.{front_widths_same, front_values_same}
use Rattle.bptc_rust.specs.Words.{loop}
use Rattle.bptc_rust.specs.Colour.{as_u8}
use Rattle.bptc_rust.specs.BitStream.{BitStream, new, write_u64, write_endpoints_rgb, write_endpoints_p}

-- the writes one after the other
unfoldable pub writes : BitStream → List ℕ → List ℕ → BitStream
writes s [] vs = s
writes s (w ∷ ws) [] = s
writes s (w ∷ ws) (v ∷ vs) = writes (write_u64 s v w) ws vs

writes_on : (d b : ℕ) {ws vs : List ℕ} → Fits ws vs → d < 2 ^ b → b + sum ws ≤ 128 → (writes (record { «data» = d; bits = b }) ws vs).«data» ≡ join ws vs * 2 ^ b + d
unfolding writes join write_u64
writes_on d b none h l = omega arith
writes_on d b (more {w} {v} {ws} {vs} hv r) h l =
    let fits : v * 2 ^ b % 2 ^ 128 ≡ v * 2 ^ b = shl_exact w b 128 hv (omega arith) in
    let small : v * 2 ^ b + d < 2 ^ (b + w) = rw (add_comm b w, pow-add 2 w b) (digits_lt hv h) in
    ap (λ (x : ℕ). (writes (record { «data» = x; bits = b + w }) ws vs).«data») (ap (bit_or d) fits ∙ or_shifted_r v b d h)
    ∙ writes_on (v * 2 ^ b + d) (b + w) r small (omega arith)
    ∙ rw (add_comm b w, pow-add 2 w b, add-mul (join ws vs * 2 ^ w) v (2 ^ b), mul_assoc (join ws vs) (2 ^ w) (2 ^ b)) (sym (add_assoc _ _ _))

-- from nothing
pub writes_join : {ws vs : List ℕ} → Fits ws vs → sum ws ≤ 128 → (writes new ws vs).«data» ≡ join ws vs
writes_join {ws} {vs} fit l = writes_on 0 0 fit (omega arith) (omega arith) ∙ rw (add-zero, mul-one)

-- a loop that writes one field of each in a list
writes_each : {A : Type 0} (f : A → ℕ) (w : ℕ) (l : List A) (s : BitStream) (ws vs : List ℕ) →
    writes (loop l s (λ (s : BitStream) (e : A). write_u64 s (f e) w)) ws vs ≡ writes s (replicate (length l) w ++ ws) (map f l ++ vs)
unfolding writes
writes_each f w [] s ws vs = refl
writes_each f w (e ∷ l) s ws vs = writes_each f w l (write_u64 s (f e) w) ws vs

-- the stream of a block in three channels: mode, partition, endpoints, p-bits and the indexes as one
abbrev pub stream : Mode → ℕ → List Rgb → List Bool → ℕ → ℕ → BitStream
stream m part es ps n w =
    let s : BitStream = write_u64 (write_u64 new (2 ^ m.number) (m.number + 1)) part m.partition_bits in
    write_u64 (write_endpoints_p (write_endpoints_rgb m.channel_bits s es) ps) n w

-- the widths that it writes
abbrev pub stream_widths : Mode → ℕ → List ℕ
stream_widths m w = (m.number + 1) ∷ (m.partition_bits ∷ (replicate (stores m) m.channel_bits ++ (replicate (p_bits m) 1 ++ (w ∷ []))))

-- and the values
abbrev pub stream_values : Mode → ℕ → List ℕ → List ℕ → ℕ → List ℕ
stream_values m part cs bits n = (2 ^ m.number) ∷ (part ∷ (cs ++ (bits ++ (n ∷ []))))

-- one after the other
pub block_writes : (m : Mode) → IsMode m → (part : ℕ) (es : List Rgb) (ps : List Bool) (n w : ℕ) → length es ≡ 4 → length ps ≡ p_bits m →
    stream m part es ps n w ≡ writes new (stream_widths m w) (stream_values m part (channel_values m (without_alpha es)) (map as_u8 ps) n)
unfolding writes
block_writes m known part es ps n w four size =
    let b : ℕ = m.channel_bits in
    let s : BitStream = write_u64 (write_u64 new (2 ^ m.number) (m.number + 1)) part m.partition_bits in
    let next : BitStream → (Rgb → ℕ) → BitStream = λ s f. loop es s (λ (s : BitStream) (e : Rgb). write_u64 s (f e) b) in
    let red : Rgb → ℕ = λ c. c.r in
    let green : Rgb → ℕ = λ c. c.g in
    let blue : Rgb → ℕ = λ c. c.b in
    let us : List ℕ = replicate (length ps) 1 ++ (w ∷ []) in
    let xs : List ℕ = map as_u8 ps ++ (n ∷ []) in
    let blues : List ℕ = map blue es ++ xs in
    let greens : List ℕ = map green es ++ blues in
    let written : stream m part es ps n w ≡ writes s (replicate 12 b ++ us) (rgb_values es xs) =
    writes_each as_u8 1 ps (next (next (next s red) green) blue) (w ∷ []) (n ∷ [])
    ∙ writes_each blue b es (next (next s red) green) us xs
    ∙ writes_each green b es (next s red) (replicate (length es) b ++ us) blues
    ∙ writes_each red b es s (replicate (length es) b ++ (replicate (length es) b ++ us)) greens
    ∙ ap (λ (k : ℕ). writes s (replicate k b ++ (replicate k b ++ (replicate k b ++ us))) (rgb_values es xs)) four in
    written
    ∙ ap (λ (k : ℕ). writes s (replicate 12 b ++ (replicate k 1 ++ (w ∷ []))) (rgb_values es xs)) size
    ∙ ap₂ (λ (ws vs : List ℕ). writes s (drop 2 ws) (drop 2 vs)) (front_widths_same m known (replicate (p_bits m) 1 ++ (w ∷ []))) (front_values_same m known part es xs four)
