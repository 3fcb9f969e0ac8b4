-- bc7.rs: Rgb<B>: the byte that a stored channel shows, and the distance of two colours.
use Rattle.std.specs.Prelude.{ℕ, ◌+◌, ◌-◌, ◌*◌, Bool, true, false, eqb}
use Rattle.std.specs.Int.Bits.{bit_or}
use Rattle.lists.specs.Tests.{pick}
use Rattle.bptc.specs.declared.Rgb.{Rgb}
use Rattle.bptc_rust.specs.Words.{shl, shr}

-- number_bits bits made eight
unfoldable pub promote : ℕ → ℕ → ℕ
promote number number-bits =
    let shifted : ℕ = shl 8 number (8 - number-bits) in
    bit_or shifted (shr shifted number-bits)

-- p as u8
abbrev pub as_u8 : Bool → ℕ
as_u8 true = 1
as_u8 false = 0

-- the colour that an endpoint and its p-bit show
unfoldable pub p_promote : ℕ → Rgb → Bool → Rgb
p_promote B self p =
    let r : ℕ = bit_or (shl 8 self.r 1) (as_u8 p) in
    let g : ℕ = bit_or (shl 8 self.g 1) (as_u8 p) in
    let b : ℕ = bit_or (shl 8 self.b 1) (as_u8 p) in
    pick (eqb B 7) (record { r = r; g = g; b = b }) (record { r = promote r (B + 1); g = promote g (B + 1); b = promote b (B + 1) })

-- the difference of two i32, without its sign: it is only squared
abbrev pub difference : ℕ → ℕ → ℕ
difference a b = (a - b) + (b - a)

-- the squared differences in red, green and blue
unfoldable pub rust_dist_sq : Rgb → Rgb → ℕ
rust_dist_sq self other =
    let dr : ℕ = difference self.r other.r in
    let dg : ℕ = difference self.g other.g in
    let db : ℕ = difference self.b other.b in
    dr * dr + dg * dg + db * db
