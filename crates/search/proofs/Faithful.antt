-- The search in 01's words, over a grid: the n of a drop is the neighbour's subaccumulation, a headwater is a cell of
-- subaccumulation 1, and a route leads from neighbour to neighbour up to its cell.
-- Assumes nothing.
use mathlib.Core.Path.{◌≡◌, refl, sym, ap, ◌∙◌}
use mathlib.Core.Bool.{true}
use mathlib.Core.List.{List, [], ◌∷◌, ◌++◌}
use mathlib.Core.Option.{Option, none, some}
use Prim.Native.Nat.{ℕ, suc}
use native.Mathlib.Omega.{arith}
use lib.ListN.{get_or}
use Rattle.lengths.specs.declared.Length.{Length}
use Rattle.lists.specs.Lists.{member}
use Rattle.ground.specs.Compass.{Dir, opposite, squares}
use Rattle.ground.specs.Grid.{Grid, cell_count, ground, neighbour, next, inflows}
use Rattle.ground.specs.Walk.{At}
use Rattle.ground.specs.Accumulation.{agrees, subaccumulation, is_headwater}
use Rattle.ground.specs.Subwatershed.{first_outlet, route, is_outlet, HasLength}
use Rattle.ground.specs.Forest.{Forest, bare, tree, size, upstream, forest}
use Rattle.ground.proofs.Walks.{route_out, route_next}
use Rattle.ground.proofs.Network.{first_induct}
use Rattle.ground.proofs.Agreement.{AllTrees, forest_trees}
use Rattle.ground.proofs.GridNetwork.{next_back}
use Rattle.ground.proofs.Ground.{𝓝, lent, sub_size, length_first}
use Rattle.search.specs.Search.{headwater}
use borrow.Author.Tests.{eq-eqb, ne_eqb}

-- from a cell to the neighbours in these directions, one after the other
unfoldable pub climb : Grid → ℕ → List Dir → Option ℕ
climb g x [] = some x
climb g x (d ∷ ds) = elim (neighbour g x d) [ none ↦ none | some y ↦ climb g y ds ]

climb_last : (g : Grid) (x y z : ℕ) (ds : List Dir) (d : Dir) → climb g x ds ≡ some y → neighbour g y d ≡ some z
    → climb g x (ds ++ (d ∷ [])) ≡ some z
unfolding climb
climb_last g x y z [] d e f = let q : x ≡ y = cc in rw (ap (λ (w : ℕ). neighbour g w d) q ∙ f, climb)
climb_last g x y z (c ∷ ds) d e f = go (neighbour g x c) refl (λ w. climb_last g w y z ds d)
  where
    go : (o : Option ℕ) → neighbour g x c ≡ o → ((w : ℕ) → climb g w ds ≡ some y → neighbour g y d ≡ some z
        → climb g w (ds ++ (d ∷ [])) ≡ some z) → climb g x (c ∷ (ds ++ (d ∷ []))) ≡ some z
    go none h ih = let p : none ≡ some y = sym (rw (h, climb)) ∙ e in cc
    go (some w) h ih = rw (h, climb) (ih w (sym (rw (h, climb)) ∙ e) f)

trees_map : {S : Type 0} (P Q : ℕ → Forest S → Type 0) → ((c : ℕ) (f : Forest S) → P c f → Q c f) → (f : Forest S)
    → AllTrees P f → AllTrees Q f
trees_map P Q k bare h = tt
trees_map P Q k (tree c s above rest) h = (k c above h.0, trees_map P Q k above h.1, trees_map P Q k rest h.2)

module _ (g : Grid) (a : List ℕ) (h : agrees g a ≡ true) (outlets : List ℕ) where
  -- in the search, what lies above a cell is its forest, and its n is its subaccumulation
  pub tree_sub : (x : ℕ) → ground g x ≡ true
      → AllTrees (λ c up. (up ≡ forest g outlets c) × (suc (size up) ≡ subaccumulation g outlets c))
      (forest g outlets x)
  unfolding forest
  tree_sub x v = trees_map
      (λ c up. (ground g c ≡ true) × (up ≡ upstream (inflows g) (is_outlet g outlets) (cell_count g) c))
      (λ c up. (up ≡ forest g outlets c) × (suc (size up) ≡ subaccumulation g outlets c))
      (λ c up p. (p.1, ap (λ f. suc (size f)) p.1 ∙ sym (sub_size g a h outlets c p.0)))
      (forest g outlets x) (forest_trees (next g) (inflows g) (ground g) (cell_count g) (𝓝 g) (λ y. get_or a y 0)
      (lent g a h) (is_outlet g outlets) x v)

  -- the search meets a length at the cells of subaccumulation 1
  pub headwater_is : (x : ℕ) → ground g x ≡ true → headwater x (forest g outlets x) ≡ is_headwater g outlets x
  headwater_is x v = go (forest g outlets x) (sub_size g a h outlets x v)
    where
      go : (f : Forest Dir) → subaccumulation g outlets x ≡ suc (size f) → headwater x f ≡ is_headwater g outlets x
      go bare e = sym (eq-eqb (subaccumulation g outlets x) 1 e)
      go (tree c s above rest) e = sym (ne_eqb (subaccumulation g outlets x) 1 (λ k. omega arith))

  -- the route of a cell leads from its outlet up to it
  climb_route : (n c : ℕ) (b : At Length) → first_outlet squares (next g) (is_outlet g outlets) n c ≡ some b
      → climb g b.cell (route (next g) (is_outlet g outlets) n c) ≡ some c
  unfolding climb
  climb_route = first_induct squares (next g) (is_outlet g outlets)
      (λ n c b. climb g b.cell (route (next g) (is_outlet g outlets) n c) ≡ some c)
      (λ n c v. ap (climb g c) (route_out (next g) (is_outlet g outlets) n c v))
      (λ n c k b v f e ih. ap (climb g b.cell) (route_next (next g) (is_outlet g outlets) n c k v f)
      ∙ climb_last g b.cell k.cell c (route (next g) (is_outlet g outlets) n k.cell) (opposite k.step) ih
      (next_back g c k f))

  pub route_climbs : (o c : ℕ) (l : Length) → member o outlets ≡ true → ground g o ≡ true → HasLength g outlets o c l
      → climb g o (route (next g) (is_outlet g outlets) (cell_count g) c) ≡ some c
  route_climbs o c l u v p = climb_route (cell_count g) c (record { cell = o; len = l })
      ((length_first g a h outlets o u v c l).0 p)
