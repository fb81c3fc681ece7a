-- The search by either edition: what it meets by a test of the cell alone, and that only the cells of the subwatershed
-- matter to that test.
-- Assumes nothing.
use mathlib.Core.Path.{◌≡◌, refl, sym, ap, ap₂, ◌∙◌, subst}
use mathlib.Core.Bool.{Bool, true, false}
use mathlib.Core.List.{List, [], ◌∷◌, ◌++◌}
use mathlib.Core.Option.{some}
use Prim.Native.Nat.{ℕ, suc, ◌+◌}
use Rattle.lengths.specs.Lengths.{Lengths}
use Rattle.lengths.specs.Rule.{counts}
use Rattle.lists.specs.Lists.{Every, keep_if, only, member}
use Rattle.lists.proofs.Lists.{every_map, only_append}
use Rattle.ground.specs.Compass.{Dir, squares}
use Rattle.ground.specs.Grid.{Grid, cell_count, ground, next, inflows}
use Rattle.ground.specs.Accumulation.{agrees, subaccumulation}
use Rattle.ground.specs.Subwatershed.{first_outlet, is_outlet, in_subwatershed}
use Rattle.ground.specs.Forest.{Forest, bare, tree, size, forest, Which, every_cell, cells_above, cells_from}
use Rattle.ground.proofs.Network.{cells_first}
use Rattle.ground.proofs.Agreement.{AllTrees}
use Rattle.ground.proofs.Subwatersheds.{belongs_true}
use Rattle.ground.proofs.Ground.{𝓝}
use Rattle.search.specs.Search.{State, fresh, meet_if, tracing_rule, drops, drop_cells, visit, search_above, search_from}
use Rattle.search.proofs.Dropping.{search_dropped, search_entered}
use Rattle.search.proofs.Faithful.{tree_sub}

-- every part of `P` and `Q` of a forest's trees
trees_both : {S : Type 0} (P Q R : ℕ → Forest S → Type 0) → ((c : ℕ) (f : Forest S) → P c f → Q c f → R c f)
    → (f : Forest S) → AllTrees P f → AllTrees Q f → AllTrees R f
trees_both P Q R k bare h i = tt
trees_both P Q R k (tree c s above rest) h i = (
  k c above h.0 i.0,
  trees_both P Q R k above h.1 i.1,
  trees_both P Q R k rest h.2 i.2,
)

module _ {S : Type 0} (𝓛 : Lengths S) where
  open 𝓛 use {Len, start, ◌▹◌}

  -- a test of the cell alone may be made after listing
  module _ (may : ℕ → Bool) where
    abbrev by_cell : Which S
    by_cell c above = may c

    cells_by : (d : Len) (f : Forest S) → cells_above 𝓛 by_cell d f ≡ only (λ x. may x.cell) (cells_above 𝓛 every_cell d f)
    cells_by d bare = refl
    cells_by d (tree c s above rest) = ap (keep_if (may c) (record { cell = c; len = d ▹ s }))
        (ap₂ ◌++◌ (cells_by (d ▹ s) above) (cells_by d rest)
        ∙ sym (only_append (λ x. may x.cell) (cells_above 𝓛 every_cell (d ▹ s) above) (cells_above 𝓛 every_cell d rest)))

    pub from_by : (o : ℕ) (f : Forest S) → cells_from 𝓛 (λ c above. may c) o f
        ≡ only (λ x. may x.cell) (cells_from 𝓛 every_cell o f)
    from_by o f = ap (keep_if (may o) (record { cell = o; len = start })) (cells_by start f)

  -- what is said of the listed cells is said of the trees
  trees_of : (P : ℕ → Type 0) (d : Len) (f : Forest S) → Every (λ x. P x.cell) (cells_above 𝓛 every_cell d f)
      → AllTrees (λ c up. P c) f
  trees_of P d bare h = tt
  trees_of P d (tree c s above rest) h =
      let i = every_parts (λ x. P x.cell) (cells_above 𝓛 every_cell (d ▹ s) above) (cells_above 𝓛 every_cell d rest) h.1 in
      (h.0, trees_of P (d ▹ s) above i.0, trees_of P d rest i.1)
    where
      every_parts : {A : Type 0} (Q : A → Type 0) (xs ys : List A) → Every Q (xs ++ ys) → Every Q xs × Every Q ys
      every_parts Q [] ys h = (tt, h)
      every_parts Q (x ∷ xs) ys h = let r = every_parts Q xs ys h.1 in ((h.0, r.0), r.1)

  -- TWO SEARCHES that meet a length at the same cells of a forest are one
  module _ (w w' : Which S) (dropping : Bool) where
    search_same : (d : Len) (st : State 𝓛) (f : Forest S) → AllTrees (λ c up. w c up ≡ w' c up) f
        → search_above 𝓛 (tracing_rule 𝓛 w dropping) d st f ≡ search_above 𝓛 (tracing_rule 𝓛 w' dropping) d st f
    search_same d st bare h = refl
    search_same d st (tree c s above rest) h =
        go (drops 𝓛 (tracing_rule 𝓛 w dropping) st.starts d s (suc (size above))) refl
        (λ st'. search_same d st' rest h.2) (λ st'. search_same (d ▹ s) st' above h.1)
      where
        visited : visit 𝓛 (tracing_rule 𝓛 w dropping) st c (d ▹ s) above
            ≡ visit 𝓛 (tracing_rule 𝓛 w' dropping) st c (d ▹ s) above
        visited = ap (λ (b : Bool). record {
          starts = meet_if 𝓛 b st.starts (record { cell = c; len = d ▹ s });
          visited = st.visited + 1;
          dropped = st.dropped;
        }) h.0

        go : (b : Bool) → drops 𝓛 (tracing_rule 𝓛 w dropping) st.starts d s (suc (size above)) ≡ b
            → ((st' : State 𝓛) → search_above 𝓛 (tracing_rule 𝓛 w dropping) d st' rest
            ≡ search_above 𝓛 (tracing_rule 𝓛 w' dropping) d st' rest)
            → ((st' : State 𝓛) → search_above 𝓛 (tracing_rule 𝓛 w dropping) (d ▹ s) st' above
            ≡ search_above 𝓛 (tracing_rule 𝓛 w' dropping) (d ▹ s) st' above)
            → search_above 𝓛 (tracing_rule 𝓛 w dropping) d st (tree c s above rest)
            ≡ search_above 𝓛 (tracing_rule 𝓛 w' dropping) d st (tree c s above rest)
        go true e ihr iha = search_dropped 𝓛 (tracing_rule 𝓛 w dropping) d st c s above rest e
            ∙ ihr (drop_cells 𝓛 st (suc (size above)))
            ∙ sym (search_dropped 𝓛 (tracing_rule 𝓛 w' dropping) d st c s above rest e)
        go false e ihr iha = search_entered 𝓛 (tracing_rule 𝓛 w dropping) d st c s above rest e
            ∙ ihr (search_above 𝓛 (tracing_rule 𝓛 w dropping) (d ▹ s)
            (visit 𝓛 (tracing_rule 𝓛 w dropping) st c (d ▹ s) above) above)
            ∙ ap (λ (t : State 𝓛). search_above 𝓛 (tracing_rule 𝓛 w' dropping) d t rest)
            (iha (visit 𝓛 (tracing_rule 𝓛 w dropping) st c (d ▹ s) above)
            ∙ ap (λ (t : State 𝓛). search_above 𝓛 (tracing_rule 𝓛 w' dropping) (d ▹ s) t above) visited)
            ∙ sym (search_entered 𝓛 (tracing_rule 𝓛 w' dropping) d st c s above rest e)

    from_same : (o : ℕ) (f : Forest S) → w o f ≡ w' o f → AllTrees (λ c up. w c up ≡ w' c up) f
        → search_from 𝓛 (tracing_rule 𝓛 w dropping) o f ≡ search_from 𝓛 (tracing_rule 𝓛 w' dropping) o f
    from_same o f q h = search_same start (visit 𝓛 (tracing_rule 𝓛 w dropping) (fresh 𝓛) o start f) f h
        ∙ ap (λ (b : Bool). search_above 𝓛 (tracing_rule 𝓛 w' dropping) start (record {
          starts = meet_if 𝓛 b [] (record { cell = o; len = start });
          visited = 1;
          dropped = 0;
        }) f) q

-- over a grid: a test that is right at the cells of the subwatershed gives the same search
module _ (g : Grid) (a : List ℕ) (h : agrees g a ≡ true) (outlets : List ℕ) (o : ℕ) (listed : member o outlets ≡ true)
    (v : ground g o ≡ true) where
  Inside : ℕ → Type 0
  Inside c = in_subwatershed g outlets o c ≡ true

  all_inside : Every (λ x. Inside x.cell) (cells_from squares every_cell o (forest g outlets o))
  unfolding Inside forest in_subwatershed
  all_inside = every_map
      (λ x. first_outlet squares (next g) (is_outlet g outlets) (cell_count g) x.cell
      ≡ some (record { cell = o; len = x.len })) (λ x. Inside x.cell)
      (λ x e. belongs_true squares (next g) (is_outlet g outlets) (cell_count g) o x.cell x.len e)
      (cells_from squares every_cell o (forest g outlets o))
      (cells_first squares (next g) (is_outlet g outlets) (inflows g) (ground g) (cell_count g) (𝓝 g) (cell_count g) o listed)

  pub met_inside : (w w' : Which Dir)
      → ((c : ℕ) → in_subwatershed g outlets o c ≡ true → w c (forest g outlets c) ≡ w' c (forest g outlets c))
      → (dropping : Bool) → search_from squares (tracing_rule squares w dropping) o (forest g outlets o)
      ≡ search_from squares (tracing_rule squares w' dropping) o (forest g outlets o)
  unfolding Inside
  met_inside w w' same dropping = from_same squares w w' dropping o (forest g outlets o) (same o all_inside.0)
      (trees_both (λ c up. Inside c) (λ c up. (up ≡ forest g outlets c) × (suc (size up) ≡ subaccumulation g outlets c))
      (λ c up. w c up ≡ w' c up)
      (λ c up i p. subst (λ f. w c f ≡ w' c f) (sym p.0) (same c i)) (forest g outlets o)
      (trees_of squares Inside (counts 0 0) (forest g outlets o) all_inside.1) (tree_sub g a h outlets o v))
