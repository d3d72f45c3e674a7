-- Reading back the sixteen bytes of a number.
use Rattle.std.proofs.Common.{ℕ, ◌≡◌, ◌+◌, ◌*◌, ◌/◌, ◌%◌, ◌^◌, ◌<◌}
use Rattle.std.specs.Int.{w128, from_be_bytes, to_be_bytes}
use native.Mathlib.Nat as nat
use native.Mathlib.Omega.{arith}

byte_and_rest : (n p : ℕ) → n / p ≡ n / p % 256 + n / (p * 256) * 256
byte_and_rest n p = omega (arith, nat.div-div-eq-div-mul n p 256)

joined_16 : (b0 b1 b2 b3 b4 b5 b6 b7 b8 b9 b10 b11 b12 b13 b14 b15 n q1 q2 q3 q4 q5 q6 q7 q8 q9 q10 q11 q12 q13 q14 q15 : ℕ) → n ≡ b0 + q1 * 256 → q1 ≡ b1 + q2 * 256 → q2 ≡ b2 + q3 * 256 → q3 ≡ b3 + q4 * 256 → q4 ≡ b4 + q5 * 256 → q5 ≡ b5 + q6 * 256 → q6 ≡ b6 + q7 * 256 → q7 ≡ b7 + q8 * 256 → q8 ≡ b8 + q9 * 256 → q9 ≡ b9 + q10 * 256 → q10 ≡ b10 + q11 * 256 → q11 ≡ b11 + q12 * 256 → q12 ≡ b12 + q13 * 256 → q13 ≡ b13 + q14 * 256 → q14 ≡ b14 + q15 * 256 → q15 ≡ b15
    → b15 * 1329227995784915872903807060280344576 + b14 * 5192296858534827628530496329220096 + b13 * 20282409603651670423947251286016 + b12 * 79228162514264337593543950336 + b11 * 309485009821345068724781056 + b10 * 1208925819614629174706176 + b9 * 4722366482869645213696 + b8 * 18446744073709551616 + b7 * 72057594037927936 + b6 * 281474976710656 + b5 * 1099511627776 + b4 * 4294967296 + b3 * 16777216 + b2 * 65536 + b1 * 256 + b0 ≡ n
joined_16 b0 b1 b2 b3 b4 b5 b6 b7 b8 b9 b10 b11 b12 b13 b14 b15 n q1 q2 q3 q4 q5 q6 q7 q8 q9 q10 q11 q12 q13 q14 q15 at_0 at_1 at_2 at_3 at_4 at_5 at_6 at_7 at_8 at_9 at_10 at_11 at_12 at_13 at_14 at_15 = omega arith

pub from_be_bytes-to_be_bytes_16 : (n : ℕ) → n < 2 ^ 128 → from_be_bytes w128 (to_be_bytes w128 n) ≡ n
from_be_bytes-to_be_bytes_16 n fits =
    let low : n ≡ n % 256 + n / 256 * 256 = omega arith in
    let high : n / 1329227995784915872903807060280344576 ≡ n / 1329227995784915872903807060280344576 % 256 = omega arith in
    joined_16 _ _ _ _ _ _ _ _ _ _ _ _ _ _ _ _ n _ _ _ _ _ _ _ _ _ _ _ _ _ _ _ low (byte_and_rest n 256) (byte_and_rest n 65536) (byte_and_rest n 16777216) (byte_and_rest n 4294967296) (byte_and_rest n 1099511627776) (byte_and_rest n 281474976710656) (byte_and_rest n 72057594037927936) (byte_and_rest n 18446744073709551616) (byte_and_rest n 4722366482869645213696) (byte_and_rest n 1208925819614629174706176) (byte_and_rest n 309485009821345068724781056) (byte_and_rest n 79228162514264337593543950336) (byte_and_rest n 20282409603651670423947251286016) (byte_and_rest n 5192296858534827628530496329220096) high
