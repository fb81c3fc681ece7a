-- The longest of the headwaters are the longest of all cells: a cell with an inflow is overtaken by it.
-- Assumes nothing.
use mathlib.Core.Path.{◌≡◌, refl, sym, ap, ◌∙◌}
use mathlib.Core.Bool.{Bool, true, false}
use mathlib.Core.List.{List, [], ◌∷◌, ◌++◌}
use Prim.Native.Nat.{ℕ}
use native.Mathlib.Omega.{arith}
use Rattle.lengths.specs.Lengths.{Lengths}
use Rattle.lengths.proofs.Laws.{LengthLaws}
use Rattle.lists.specs.Lists.{keep_if}
use Rattle.ground.specs.Walk.{At}
use Rattle.ground.specs.Forest.{Forest, bare, tree, every_cell, cells_above, cells_from}
use Rattle.lists.proofs.Lists.{keep_append}
use Rattle.search.specs.Search.{headwater, longest, meet, Limit, first_rule, limited_by, search_from}
use Rattle.search.proofs.Meeting.{meet_shorter, meet_longer, meet_tie, meets, meets_append, meets_longest, le_lt}
use Rattle.search.proofs.Dropping.{Covers, search_longest}

module _ {S : Type 0} (𝓛 : Lengths S) (laws : LengthLaws 𝓛) where
  open 𝓛 use {Len, start, ◌▹◌, shorter}
  open laws use {asym, grows}

  -- met before a longer one, a length leaves no trace
  overtaken : (gs : List (At Len)) (x y : At Len) → shorter x.len y.len ≡ true
      → meet 𝓛 (meet 𝓛 gs x) y ≡ meet 𝓛 gs y
  overtaken [] x y h = meet_longer 𝓛 x [] y (asym x.len y.len h) h
  overtaken (g ∷ gs) x y h = go (shorter x.len g.len) refl (shorter g.len x.len) refl
    where
      -- unless x is shorter than the greatest, y is longer than that
      past : (gs' : List (At Len)) → shorter x.len g.len ≡ false → meet 𝓛 (g ∷ gs') y ≡ y ∷ []
      past gs' e = let k = le_lt 𝓛 laws g.len x.len y.len e h in
          meet_longer 𝓛 g gs' y (asym g.len y.len k) k

      go : (b : Bool) → shorter x.len g.len ≡ b → (c : Bool) → shorter g.len x.len ≡ c
          → meet 𝓛 (meet 𝓛 (g ∷ gs) x) y ≡ meet 𝓛 (g ∷ gs) y
      go true e c f = ap (λ l. meet 𝓛 l y) (meet_shorter 𝓛 g gs x e)
      go false e true f = ap (λ l. meet 𝓛 l y) (meet_longer 𝓛 g gs x e f)
          ∙ meet_longer 𝓛 x [] y (asym x.len y.len h) h ∙ sym (past gs e)
      go false e false f = ap (λ l. meet 𝓛 l y) (meet_tie 𝓛 g gs x e f) ∙ past (gs ++ (x ∷ [])) e ∙ sym (past gs e)

  -- a cell with what lies above it
  one_cell : (x : At Len) (above : Forest S)
      → ((gs : List (At Len)) → meets 𝓛 gs (cells_above 𝓛 headwater x.len above)
      ≡ meets 𝓛 gs (cells_above 𝓛 every_cell x.len above))
      → (gs : List (At Len)) → meets 𝓛 gs
      (keep_if (headwater x.cell above) x (cells_above 𝓛 headwater x.len above))
      ≡ meets 𝓛 gs (x ∷ cells_above 𝓛 every_cell x.len above)
  unfolding meets
  one_cell x bare same gs = refl
  one_cell x (tree c s above rest) same gs = same gs
      ∙ ap (λ l. meets 𝓛 l (cells_above 𝓛 every_cell (x.len ▹ s) above ++ cells_above 𝓛 every_cell x.len rest))
      (sym (overtaken gs x (record { cell = c; len = x.len ▹ s }) (grows x.len s)))

  heads_meet : (d : Len) (f : Forest S) (gs : List (At Len)) → meets 𝓛 gs (cells_above 𝓛 headwater d f)
      ≡ meets 𝓛 gs (cells_above 𝓛 every_cell d f)
  heads_meet d bare gs = refl
  heads_meet d (tree c s above rest) gs =
      ap (meets 𝓛 gs) (keep_append (headwater c above) x (cells_above 𝓛 headwater (d ▹ s) above)
      (cells_above 𝓛 headwater d rest))
      ∙ meets_append 𝓛 gs (keep_if (headwater c above) x (cells_above 𝓛 headwater (d ▹ s) above))
      (cells_above 𝓛 headwater d rest)
      ∙ ap (λ l. meets 𝓛 l (cells_above 𝓛 headwater d rest)) (one_cell x above (heads_meet (d ▹ s) above) gs)
      ∙ heads_meet d rest (meets 𝓛 gs (x ∷ cells_above 𝓛 every_cell (d ▹ s) above))
      ∙ sym (meets_append 𝓛 gs (x ∷ cells_above 𝓛 every_cell (d ▹ s) above) (cells_above 𝓛 every_cell d rest))
    where
      x : At Len
      x = record { cell = c; len = d ▹ s }

  pub heads_longest : (o : ℕ) (above : Forest S) → longest 𝓛 (cells_from 𝓛 headwater o above)
      ≡ longest 𝓛 (cells_from 𝓛 every_cell o above)
  heads_longest o above = sym (meets_longest 𝓛 laws (cells_from 𝓛 headwater o above))
      ∙ one_cell (record { cell = o; len = start }) above (heads_meet start above) []
      ∙ meets_longest 𝓛 laws (cells_from 𝓛 every_cell o above)

  -- 01's search by any limit that covers, with or without dropping, lists every cell of the subwatershed that no cell
  -- of it exceeds
  pub search_all_longest : (limit : Limit 𝓛) → Covers 𝓛 laws limit → (dropping : Bool) (o : ℕ) (above : Forest S)
      → (search_from 𝓛 (limited_by 𝓛 limit (first_rule 𝓛 headwater dropping)) o above).starts
      ≡ longest 𝓛 (cells_from 𝓛 every_cell o above)
  search_all_longest limit covers dropping o above =
      search_longest 𝓛 laws (limited_by 𝓛 limit (first_rule 𝓛 headwater dropping)) covers o above ∙ heads_longest o above

  -- the list of the longest is not empty
  meets_some : (g : At Len) (gs xs : List (At Len)) → meets 𝓛 (g ∷ gs) xs ≡ [] → ⊥
  unfolding meets
  meets_some g gs [] e = let w : ◌≡◌ {A = ℕ} 0 1 = cc in omega arith
  meets_some g gs (x ∷ xs) e = go (shorter x.len g.len) refl (shorter g.len x.len) refl
      (λ g' gs'. meets_some g' gs' xs)
    where
      go : (b : Bool) → shorter x.len g.len ≡ b → (c : Bool) → shorter g.len x.len ≡ c
          → ((g' : At Len) (gs' : List (At Len)) → meets 𝓛 (g' ∷ gs') xs ≡ [] → ⊥) → ⊥
      go true p c q ih = ih g gs (rw (p, meet) at e)
      go false p true q ih = ih x [] (rw (p, q, meet) at e)
      go false p false q ih = ih g (gs ++ (x ∷ [])) (rw (p, q, meet) at e)

  pub longest_some : (x : At Len) (xs : List (At Len)) → longest 𝓛 (x ∷ xs) ≡ [] → ⊥
  unfolding meets
  longest_some x xs e = meets_some x [] xs (meets_longest 𝓛 laws (x ∷ xs) ∙ e)
