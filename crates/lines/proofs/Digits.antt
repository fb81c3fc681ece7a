-- A number's digits are those of its tenth and one more.
-- Assumes nothing.
use mathlib.Core.Path.{◌≡◌, sym, ap, ◌∙◌}
use mathlib.Core.List.{List, [], ◌∷◌, ◌++◌}
use Prim.Native.Nat.{ℕ, zero, suc, ◌+◌, ◌/◌, ◌%◌, ◌^◌, ◌≤◌, ◌<◌}
use native.Mathlib.Omega.{arith}
use native.Mathlib.Decide.{dec_lt}
use borrow.Author.Tests.{lt-ltb, le-ltb}
use Rattle.lines.specs.Line.{digits, decimal}

-- one digit
pub one_digit : (k n : ℕ) → n < 10 → digits (suc k) n ≡ (48 + n % 10) ∷ []
unfolding digits
one_digit k n h = rw (lt-ltb n 10 h)

-- several
pub several : (k n : ℕ) → 10 ≤ n → digits (suc k) n ≡ digits k (n / 10) ++ ((48 + n % 10) ∷ [])
unfolding digits
several k n h = rw (le-ltb n 10 h)

-- more places than it has digits change nothing
enough : (k n : ℕ) → n < 10 ^ suc k → digits (suc k) n ≡ digits (suc (suc k)) n
enough zero n h = one_digit 0 n (omega arith) ∙ sym (one_digit 1 n (omega arith))
enough (suc k) n h = elim (dec_lt n 10) [
  | yes s ↦ one_digit (suc k) n s ∙ sym (one_digit (suc (suc k)) n s)
  | no s ↦ several (suc k) n (omega arith)
      ∙ ap (λ (l : List ℕ). l ++ ((48 + n % 10) ∷ [])) (enough k (n / 10) (omega (arith, h)))
      ∙ sym (several (suc (suc k)) n (omega arith))
]

pub next_digit : (n : ℕ) → 10 ≤ n → n < 2 ^ 32 → decimal n ≡ decimal (n / 10) ++ ((48 + n % 10) ∷ [])
next_digit n h s = several 9 n h ∙ ap (λ (l : List ℕ). l ++ ((48 + n % 10) ∷ [])) (enough 8 (n / 10) (omega (arith, s)))
