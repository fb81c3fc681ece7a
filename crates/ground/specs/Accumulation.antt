-- Accumulation and subaccumulation: the equation, and the numbers worked out.
-- Assumes nothing.
use Rattle.std.specs.Prelude.{Bool, true, false, cond, List, [], ◌∷◌, map, ℕ, zero, suc, ◌+◌, get_or, eqb}
use Rattle.lists.specs.Lists.{member, all_below, up_to, sum_of}
use Rattle.ground.specs.Grid.{Grid, Link, cell_count, ground, inflows, inflow_record}

-- 01, Accumulation, as an equation: a null cell has 0, and any other counts itself and what its inflows have. What this
-- asks of the number at a cell, if the list a holds the neighbours' numbers
unfoldable pub balance : Grid → List ℕ → ℕ → ℕ
balance g a x = cond (ground g x) (suc (sum_of (inflow_record g a x))) 0

-- check 14's question: does a list fulfil that equation at every cell?
unfoldable pub agrees : Grid → List ℕ → Bool
agrees g a = all_below (λ x. eqb (get_or a x 0) (balance g a x)) (cell_count g)

-- the sum worked out, over any network: `ups` gives the cells that flow into a cell
module _ {S : Type 0} (ups : ℕ → List (Link S)) (outlet : ℕ → Bool) where
  -- the sum over inflowing neighbours, outlets left out
  abbrev pub total : (ℕ → ℕ) → List (Link S) → ℕ
  total f [] = 0
  total f (k ∷ ks) = elim (outlet k.cell) [ true ↦ total f ks | false ↦ f k.cell + total f ks ]

  -- 1 plus that sum, at most n steps up
  abbrev pub gathered : ℕ → ℕ → ℕ
  gathered zero x = 1
  gathered (suc n) x = suc (total (gathered n) (ups x))

module _ (g : Grid) where
  -- 01, Subaccumulation, a term of its own: the same count without what comes by way of an outlet. As many steps up as
  -- there are cells are enough where there is no ring
  unfoldable pub subaccumulation : List ℕ → ℕ → ℕ
  subaccumulation outlets x = cond (ground g x) (gathered (inflows g) (λ c. member c outlets) (cell_count g) x) 0

  abbrev pub accumulation : ℕ → ℕ
  accumulation x = subaccumulation [] x

  -- 01, Headwater: nothing but outlets flows in, so it counts itself alone
  abbrev pub is_headwater : List ℕ → ℕ → Bool
  is_headwater outlets x = eqb (subaccumulation outlets x) 1

  -- the grids of these numbers
  abbrev pub subaccumulations : List ℕ → List ℕ
  subaccumulations outlets = map (subaccumulation outlets) (up_to (cell_count g))

  abbrev pub accumulations : List ℕ
  accumulations = subaccumulations []
