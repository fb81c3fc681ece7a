-- `lengths::is_larger` meets its contract: the squares fit, and half of p² will do.
-- Assumes nothing.
use Prim.Native.Nat.{ℕ, ◌*◌, ◌<◌, ◌≤◌, ◌^◌}
use native.Mathlib.Nat.{mul-le-mul}
use native.Mathlib.Omega.{arith}
use Rattle.lengths.proofs.Surds.{half_square}
use Rattle.lengths.proofs.is_larger.Goals as goal

-- the square of a number of 32 bits fits 64
square_fits : (x : ℕ) → x < 2 ^ 32 → x * x < 2 ^ 64
square_fits x h = omega (arith, mul-le-mul {n₂ = 4294967295} {m₂ = 4294967295} below below)
  where
    below : x ≤ 4294967295
    below = omega arith

pub overflow_mul-result : goal.overflow_mul-result
overflow_mul-result c = omega (arith, square_fits c.args.q c.requires.1)

pub overflow_mul-result-2 : goal.overflow_mul-result-2
overflow_mul-result-2 c = omega (arith, square_fits c.args.p c.requires.0)

pub returns : goal.returns
returns c = half_square c.args.p c.args.q c.requires.2
