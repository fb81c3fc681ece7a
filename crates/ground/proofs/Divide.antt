-- A DIVIDE CELL EXISTS in every subwatershed: from any of its cells westward, as long as the next one is inside.
-- Assumes nothing.
use mathlib.Core.Path.{◌≡◌, refl, sym, ap, ◌∙◌, subst}
use mathlib.Core.Bool.{Bool, true, false, not, or-true}
use mathlib.Core.Logic.{inl, inr}
use mathlib.Core.List.{List, [], ◌∷◌}
use mathlib.Core.Option.{Option, none, some}
use Prim.Native.Nat.{ℕ, zero, suc, ◌+◌, ◌*◌, ◌/◌, ◌%◌, ◌<◌}
use native.Mathlib.Nat.{div-add-mod'}
use native.Mathlib.Omega.{arith}
use Rattle.lists.specs.Lists.{In}
use Rattle.ground.specs.Compass.{Dir, W, dirs, less, shifted}
use Rattle.ground.specs.Grid.{Grid, cell_at, ground, neighbour}
use Rattle.ground.specs.Subwatershed.{in_subwatershed}
use Rattle.ground.specs.Divide.{is_beyond, beyond_in, on_divide}
use Rattle.ground.proofs.Tables.{all_dirs}

-- the western neighbour has a lesser number
west_less : (g : Grid) (c y : ℕ) → neighbour g c W ≡ some y → y < c
unfolding neighbour
west_less g c y e = go (c % g.cols) refl
  where
    at : ℕ → Option ℕ
    at m = cell_at g.cols (some (c / g.cols)) (shifted less g.cols m)

    go : (m : ℕ) → c % g.cols ≡ m → y < c
    go zero f = let p : at zero ≡ some y = subst (λ (m : ℕ). at m ≡ some y) f e in
        let w : ◌≡◌ {A = ℕ} 0 1 = cc in absurd (omega arith)
    go (suc x) f = let p : at (suc x) ≡ some y = subst (λ (m : ℕ). at m ≡ some y) f e in
        let q : c / g.cols * g.cols + x ≡ y = cc in omega (arith, div-add-mod' c g.cols)

module _ (g : Grid) (outlets : List ℕ) (o : ℕ) where
  -- one neighbour beyond is enough
  beyond_there : (c : ℕ) (d : Dir) (ds : List Dir) → In d ds → is_beyond g outlets o (neighbour g c d) ≡ true
      → beyond_in g outlets o c ds ≡ true
  beyond_there c d [] i e = absurd i
  beyond_there c d (x ∷ ds) (inl q) e = rw (ap (λ (y : Dir). is_beyond g outlets o (neighbour g c y)) (sym q) ∙ e)
  beyond_there c d (x ∷ ds) (inr i) e = rw (beyond_there c d ds i e) (or-true (is_beyond g outlets o (neighbour g c x)))

  pub beyond_divides : (c : ℕ) (d : Dir) → is_beyond g outlets o (neighbour g c d) ≡ true → on_divide g outlets o c ≡ true
  unfolding on_divide
  beyond_divides c d e = beyond_there c d dirs (all_dirs d) e

  -- and where no neighbour is beyond, the cell is not on the divide
  none_there : (c : ℕ) (ds : List Dir) → ((d : Dir) → is_beyond g outlets o (neighbour g c d) ≡ false)
      → beyond_in g outlets o c ds ≡ false
  none_there c [] h = refl
  none_there c (d ∷ ds) h = rw (h d) (none_there c ds h)

  pub none_beyond : (c : ℕ) → ((d : Dir) → is_beyond g outlets o (neighbour g c d) ≡ false)
      → on_divide g outlets o c ≡ false
  unfolding on_divide
  none_beyond c h = none_there c dirs h

  -- a cell of the subwatershed that is on its divide
  pub record DivideCell : Type 0 where
    pub cell : ℕ
    pub inside : in_subwatershed g outlets o cell ≡ true
    pub divides : on_divide g outlets o cell ≡ true

  divide_from : (n c : ℕ) → c < n → in_subwatershed g outlets o c ≡ true → DivideCell
  divide_from zero c i s = absurd (omega arith)
  divide_from (suc n) c i s = go (neighbour g c W) refl (divide_from n)
    where
      Later : Type 0
      Later = (y : ℕ) → y < n → in_subwatershed g outlets o y ≡ true → DivideCell

      by_test : (y : ℕ) → neighbour g c W ≡ some y → (b : Bool) → in_subwatershed g outlets o y ≡ b → Later → DivideCell
      by_test y e true t ih = ih y (omega (arith, west_less g c y e)) t
      by_test y e false t ih = record {
        cell = c;
        inside = s;
        divides = beyond_divides c W (ap (is_beyond g outlets o) e ∙ rw t (or-true (not (ground g y))));
      }

      go : (t : Option ℕ) → neighbour g c W ≡ t → Later → DivideCell
      go none e ih = record { cell = c; inside = s; divides = beyond_divides c W (ap (is_beyond g outlets o) e) }
      go (some y) e ih = by_test y e (in_subwatershed g outlets o y) refl ih

  -- THE LAW: where the subwatershed has a cell, it has one on its divide
  pub divide_exists : (c : ℕ) → in_subwatershed g outlets o c ≡ true → DivideCell
  divide_exists c s = divide_from (suc c) c (omega arith) s
