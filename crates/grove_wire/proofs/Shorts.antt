-- Numbers of 32 bits, read.
use Rattle.std.proofs.Common.{◌≡◌, ℕ, ◌<◌, ◌^◌, ap, cond, Some, None}
use Rattle.std.proofs.lemmas.Bool.{lt-ltb}
use Rattle.std.specs.Prelude.{nat_lt}

-- a number of 32 bits is read as itself
pub short_is_read : (n : ℕ) → n < 2 ^ 32 → cond (nat_lt n (2 ^ 32)) (Some n) None ≡ Some n
short_is_read n small = ap (λ test. cond test (Some n) None) (lt-ltb n (2 ^ 32) small)
