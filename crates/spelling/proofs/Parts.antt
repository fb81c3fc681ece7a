-- A part of a list that is written over.
-- Assumes nothing.
use mathlib.Core.Path.{◌≡◌, sym, ◌∙◌}
use mathlib.Core.List.{List, append_assoc}
use Prim.Native.Nat.{ℕ, ◌+◌, ◌≤◌}
use native.Mathlib.Omega.{arith}
use lib.ListN.{length, take, drop}
use lib.Seq.{sets, sets-eq, drop-drop}
use borrow.Rule.Slice.PartMut.{put_mid}

-- it is a run of stores
pub part_stored : (a k : ℕ) (xs ys : List ℕ) → a + k ≤ length xs → length ys ≡ k → put_mid a k xs ys ≡ sets xs a ys
part_stored a k xs ys h e =
    sym (sets-eq ys xs a (omega arith) ∙ rw (e, ← drop-drop k a xs) (append_assoc (take a xs) ys (drop k (drop a xs))))
