-- Small conversions by computation: the order of the checks, and what is left.
-- Assumes nothing.
use mathlib.Core.Path.{◌≡◌, refl}
use mathlib.Core.List.{List, [], ◌∷◌, map}
use Prim.Native.Nat.{ℕ}
use Rattle.lists.specs.Slices.{overlaid}
use Rattle.ground.specs.Tables.{dir_of, is_code}
use Rattle.ground.specs.Converting.{recoded, converted_codes}
use Rattle.answers.specs.Checks.{first_failed, check10, check11, check12, check24}
use Rattle.answers.specs.Converting.{Conversion, conversion, convert_number, convert_leaves}

-- every call lends three places
abbrev pub lent : List ℕ
lent = 9 ∷ 9 ∷ 9 ∷ []

-- what a call answers and leaves
pub record Told : Type 0 where
  pub number : ℕ
  pub leaves : List ℕ

abbrev pub told : Conversion → Told
told c = record { number = convert_number c lent; leaves = convert_leaves c lent }

-- each call fails the check of its number and every later one; the last three pass all, one with a pond and null
abbrev pub calls : List Conversion
calls = conversion 4 1 0 1 [] ∷ conversion 1 0 0 1 [] ∷ conversion 2 1 0 1 [] ∷ conversion 2 1 1 3 (0 ∷ 16 ∷ [])
    ∷ conversion 2 1 1 3 (0 ∷ 8 ∷ 16 ∷ []) ∷ conversion 2 1 1 2 (0 ∷ 8 ∷ 16 ∷ []) ∷ conversion 1 3 1 2 (16 ∷ 128 ∷ [])
    ∷ conversion 2 3 1 3 (255 ∷ 0 ∷ 8 ∷ []) ∷ []

abbrev pub refusal : ℕ → Told
refusal number = record { number = number; leaves = lent }

pub conversions : map told calls ≡ refusal 24 ∷ refusal 24 ∷ refusal 10 ∷ refusal 11 ∷ refusal 12
    ∷ record { number = 0; leaves = 0 ∷ 1 ∷ 9 ∷ [] } ∷ record { number = 0; leaves = 1 ∷ 4 ∷ 9 ∷ [] }
    ∷ record { number = 0; leaves = 255 ∷ 0 ∷ 5 ∷ [] } ∷ []
unfolding overlaid dir_of is_code recoded converted_codes first_failed check10 check11 check12 check24 convert_number
    convert_leaves
conversions = refl
