-- What is read off a word after a note is made or taken away.
-- Assumes nothing.
use mathlib.Core.Path.{◌≡◌}
use Prim.Native.Nat.{ℕ, ◌/◌, ◌%◌, ◌^◌}
use native.Mathlib.Omega.{arith}
use Rattle.notes.specs.Notes.{cells_held, with_outlet, with_enclosed, with_inside, without_inside}

-- the subaccumulation stays
pub cells_enclosed : (w : ℕ) → cells_held (with_enclosed w) ≡ cells_held w
cells_enclosed w = omega arith

pub cells_inside : (w : ℕ) → cells_held (with_inside w) ≡ cells_held w
cells_inside w = omega arith

-- and so does the note of an outlet
pub outlet_enclosed : (w : ℕ) → with_enclosed w / 2 ^ 29 % 2 ≡ w / 2 ^ 29 % 2
outlet_enclosed w = omega arith

pub outlet_inside : (w : ℕ) → with_inside w / 2 ^ 29 % 2 ≡ w / 2 ^ 29 % 2
outlet_inside w = omega arith

-- a note made twice is made once
pub outlet_again : (w : ℕ) → with_outlet (with_outlet w) ≡ with_outlet w
outlet_again w = omega arith

pub enclosed_again : (w : ℕ) → with_enclosed (with_enclosed w) ≡ with_enclosed w
enclosed_again w = omega arith

pub inside_again : (w : ℕ) → with_inside (with_inside w) ≡ with_inside w
inside_again w = omega arith

pub left_again : (w : ℕ) → without_inside (without_inside w) ≡ without_inside w
left_again w = omega arith
