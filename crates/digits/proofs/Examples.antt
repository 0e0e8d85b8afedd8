-- The value of every digit in both cases, and of what lies beside them, as it has to be.
-- Assumes nothing.
use Rattle.std.proofs.Common.{◌≡◌, ℕ, ◌≤◌, [], ◌∷◌, map, refl, arith}
use borrow.Author.Tests.{lt-leb}
use Rattle.buffer.proofs.Bools.{and_false}
use Rattle.digits.specs.Digit.{value_of}

pub numbers :
    map value_of (0x30 ∷ 0x31 ∷ 0x32 ∷ 0x33 ∷ 0x34 ∷ 0x35 ∷ 0x36 ∷ 0x37 ∷ 0x38 ∷ 0x39 ∷ []) ≡ (0 ∷ 1 ∷ 2 ∷ 3 ∷ 4 ∷ 5 ∷ 6 ∷ 7 ∷ 8 ∷ 9 ∷ [])
unfolding value_of
numbers = refl

pub upper_case : map value_of (0x41 ∷ 0x42 ∷ 0x43 ∷ 0x44 ∷ 0x45 ∷ 0x46 ∷ []) ≡ (10 ∷ 11 ∷ 12 ∷ 13 ∷ 14 ∷ 15 ∷ [])
unfolding value_of
upper_case = refl

pub lower_case : map value_of (0x61 ∷ 0x62 ∷ 0x63 ∷ 0x64 ∷ 0x65 ∷ 0x66 ∷ []) ≡ (10 ∷ 11 ∷ 12 ∷ 13 ∷ 14 ∷ 15 ∷ [])
unfolding value_of
lower_case = refl

-- beside the ranges: slash, colon, at sign, G, grave accent, g
pub beside : map value_of (0x2F ∷ 0x3A ∷ 0x40 ∷ 0x47 ∷ 0x60 ∷ 0x67 ∷ []) ≡ (16 ∷ 16 ∷ 16 ∷ 16 ∷ 16 ∷ 16 ∷ [])
unfolding value_of
beside = refl

-- 0x10 to 0x19, which would be numbers with the bit set in which the cases differ
pub below :
    map value_of (0x10 ∷ 0x11 ∷ 0x12 ∷ 0x13 ∷ 0x14 ∷ 0x15 ∷ 0x16 ∷ 0x17 ∷ 0x18 ∷ 0x19 ∷ []) ≡
    (16 ∷ 16 ∷ 16 ∷ 16 ∷ 16 ∷ 16 ∷ 16 ∷ 16 ∷ 16 ∷ 16 ∷ [])
unfolding value_of
below = refl

-- no byte from 0x80 on is a digit
pub above : (c : ℕ) → 0x80 ≤ c → value_of c ≡ 16
unfolding value_of
above c h =
    rw (lt-leb c 0x39 (omega arith), and_false, lt-leb c 0x46 (omega arith), and_false, lt-leb c 0x66 (omega arith), and_false)
