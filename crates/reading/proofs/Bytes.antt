-- What stands at a place of a file, by its bytes.
-- Assumes nothing.
use mathlib.Core.Path.{◌≡◌, ◌∙◌}
use mathlib.Core.Bool.{Bool, ◌&&◌}
use mathlib.Core.List.{List, [], ◌∷◌}
use Prim.Native.Nat.{ℕ, ◌+◌, ◌*◌, ◌≤◌, ◌<◌}
use native.Mathlib.Nat.{add_assoc}
use native.Mathlib.Omega.{arith}
use lib.ListN.{length, get_or, drop}
use lib.Seq.{get_or-drop}
use lib.Dec.{eqb, leb}
use Rattle.std.specs.List.{starts_with}
use Rattle.std.proofs.lemmas.Bool.Decides.{nat_tests}
use Rattle.std.proofs.Math.Bool.{and-true}
use borrow.Author.Tests.{le-leb, lt-leb}
use Rattle.spelling.specs.Format.{mark}
use Rattle.spelling.specs.Reading.{is_record, number_at}

-- the first two bytes
same : (x a y b : ℕ) → (eqb x a && eqb y b) ≡ (eqb a x && eqb b y)
same x a y b = grind (arith, nat_tests)

begins : (rest letters : List ℕ) → length letters ≡ 2 → 2 ≤ length rest
    → starts_with eqb rest letters
    ≡ (eqb (get_or rest 0 0) (get_or letters 0 0) && eqb (get_or rest 1 0) (get_or letters 1 0))
begins rest [] e h = absurd (omega arith)
begins rest (x ∷ []) e h = absurd (omega arith)
begins rest (x ∷ y ∷ z ∷ zs) e h = absurd (omega arith)
begins [] (x ∷ y ∷ []) e h = absurd (omega arith)
begins (a ∷ []) (x ∷ y ∷ []) e h = absurd (omega arith)
begins (a ∷ b ∷ rest) (x ∷ y ∷ []) e h = rw (and-true (eqb y b)) (same x a y b)

-- a record of so many bytes, with a mark
module _ (rest letters : List ℕ) (size : ℕ) where
  abbrev here : Bool
  here = is_record (mark (get_or letters 0 0) (get_or letters 1 0)) size rest

  pub no_room : length rest < size → leb size (length rest) ≡ here
  unfolding is_record
  no_room h = rw (lt-leb size (length rest) h)

  pub by_mark : size ≤ length rest → 2 ≤ size → length letters ≡ 2 → starts_with eqb rest letters ≡ here
  unfolding is_record
  by_mark h k e = begins rest letters e (omega arith) ∙ rw (le-leb size (length rest) h)

module _ (file : List ℕ) (at : ℕ) where
  -- a number
  pub number_is : (skip : ℕ)
      → get_or file (at + skip) 0 + 256 * get_or file (at + skip + 1) 0 ≡ number_at skip (drop at file)
  unfolding number_at
  number_is skip = rw (get_or-drop at file skip 0, get_or-drop at file (skip + 1) 0, add_assoc at skip 1)
