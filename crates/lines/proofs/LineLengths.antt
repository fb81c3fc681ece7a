-- How long the desk's lines are, at most.
-- Assumes nothing.
use mathlib.Core.List.{[], ◌∷◌}
use Prim.Native.Nat.{ℕ, zero, suc, ◌+◌, ◌/◌, ◌%◌, ◌≤◌, ◌<◌}
use native.Mathlib.Omega.{arith}
use native.Mathlib.Decide.{dec_lt}
use lib.ListN.{length, length-append}
use Rattle.lines.specs.declared.OutletLine.{OutletLine}
use Rattle.lines.specs.Line.{digits, decimal, catchment_line, outlet_line, path_line, refused_line}
use Rattle.lines.proofs.Digits.{one_digit, several}

-- ---- numbers

digits_length : (k n : ℕ) → length (digits k n) ≤ k
unfolding digits
digits_length zero n = omega arith
digits_length (suc k) n = elim (dec_lt n 10) [
  | yes s ↦ rw (one_digit k n s) (omega arith)
  | no s ↦
      rw (several k n (omega arith))
      (omega (arith, length-append (digits k (n / 10)) ((48 + n % 10) ∷ []), digits_length k (n / 10)))
]

pub decimal_length : (n : ℕ) → length (decimal n) ≤ 10
decimal_length n = digits_length 10 n

pub decimal_two : (n : ℕ) → n < 100 → length (decimal n) ≤ 2
decimal_two n h = elim (dec_lt n 10) [
  | yes s ↦ rw (one_digit 9 n s) (omega arith)
  | no s ↦ rw (several 9 n (omega arith), one_digit 8 (n / 10) (omega arith)) (omega arith)
]

-- ---- lines: their words, and the digits of their numbers

pub catchment_length : (rows cols outlets : ℕ) → length (catchment_line rows cols outlets) ≤ 51
unfolding catchment_line
catchment_length rows cols outlets =
    simp length-append (omega (arith, decimal_length rows, decimal_length cols, decimal_length outlets))

pub outlet_length : (line : OutletLine) → line.row < 100 → line.col < 100 → length (outlet_line line) ≤ 139
unfolding outlet_line
outlet_length line r c =
    simp length-append
    (omega (
      arith,
      decimal_length line.place,
      decimal_two line.row r,
      decimal_two line.col c,
      decimal_length line.cells,
      decimal_length line.straight,
      decimal_length line.diagonal,
      decimal_length line.paths,
      decimal_length line.visited,
      decimal_length line.dropped,
    ))

pub path_length_lem : (row col : ℕ) → row < 100 → col < 100 → length (path_line row col) ≤ 11
unfolding path_line
path_length_lem row col r c = simp length-append (omega (arith, decimal_two row r, decimal_two col c))

pub refused_length : (number : ℕ) → length (refused_line number) ≤ 19
unfolding refused_line
refused_length number = simp length-append (omega (arith, decimal_length number))
