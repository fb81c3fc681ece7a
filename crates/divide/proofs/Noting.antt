-- THE ENCLOSED CELLS ARE NOTED when the subwatershed's cells are entered, noted and left; and what the words hold
-- before and after. Assumes nothing.
use mathlib.Core.Path.{◌≡◌, refl, ap, ap₂, ◌∙◌}
use mathlib.Core.Bool.{Bool, true, false, cond, not, ◌&&◌}
use mathlib.Core.List.{List}
use Prim.Native.Nat.{ℕ, ◌+◌, ◌/◌, ◌%◌, ◌≤◌, ◌<◌, ◌^◌}
use native.Mathlib.Omega.{arith}
use lib.ListN.{length, get_or}
use lib.Dec.{ltb}
use borrow.Author.Tests.{lt-ltb, le-ltb}
use Rattle.lists.specs.Lists.{member}
use Rattle.lists.proofs.Kept.{kept_then}
use Rattle.ground.specs.Grid.{Grid, cell_count, ground}
use Rattle.ground.specs.Accumulation.{subaccumulation}
use Rattle.ground.specs.Subwatershed.{in_subwatershed}
use Rattle.ground.specs.Divide.{on_divide}
use Rattle.notes.specs.Notes.{cells_held, with_outlet, with_enclosed, with_inside, without_inside, Noted}
use Rattle.notes.proofs.Notes.{cells_enclosed, outlet_enclosed}
use Rattle.gathering.specs.Gathering.{Enters}
use Rattle.divide.specs.Divides.{Changes, NotesOutlets, beside_outside, enclosed_by}
use Rattle.divide.proofs.Outside.{inside_within, outside_divide}

-- ---- entered, noted, left

-- a word on its way: of a cell inside, which is noted as enclosed or not, and of one outside
abbrev passed : Bool → Bool → ℕ → ℕ
passed b d w = cond b (without_inside (cond d (with_enclosed (with_inside w)) (with_inside w))) w

in_turn : (b d : Bool) (w : ℕ)
    → cond b (without_inside (cond (b && d) (with_enclosed (cond b (with_inside w) w)) (cond b (with_inside w) w)))
    (cond (b && d) (with_enclosed (cond b (with_inside w) w)) (cond b (with_inside w) w)) ≡ passed b d w
in_turn true d w = refl
in_turn false d w = refl

module _ (w : ℕ) (h : w < 2 ^ 31) where
  inside_adds : with_inside w ≡ w + 2 ^ 31
  inside_adds = omega arith

  enclosed_low : with_enclosed w < 2 ^ 31
  enclosed_low = omega arith

  left_takes : without_inside (w + 2 ^ 31) ≡ w
  left_takes = omega arith

enclosed_adds : (w : ℕ) → with_enclosed (w + 2 ^ 31) ≡ with_enclosed w + 2 ^ 31
enclosed_adds w = omega arith

passed_is : (b d : Bool) (w : ℕ) → (b ≡ true → w < 2 ^ 31) → passed b d w ≡ cond (b && d) (with_enclosed w) w
passed_is true true w h =
    ap (λ (v : ℕ). without_inside (with_enclosed v)) (inside_adds w (h refl)) ∙ ap without_inside (enclosed_adds w)
    ∙ left_takes (with_enclosed w) (enclosed_low w (h refl))
passed_is true false w h = ap without_inside (inside_adds w (h refl)) ∙ left_takes w (h refl)
passed_is false d w h = refl

module _ (g : Grid) (outlets : List ℕ) (o : ℕ) (solid : ground g o ≡ true) {cells old m₁ : List ℕ}
    (none_inside : (x : ℕ) → x < cell_count g → get_or old x 0 < 2 ^ 31)
    (are-cells : (c : ℕ) → member c cells ≡ in_subwatershed g outlets o c)
    (enters : Enters (cell_count g) cells old m₁) where
  abbrev in_it : ℕ → Bool
  in_it = in_subwatershed g outlets o

  -- the words entered tell what is inside
  entered_is : (x : ℕ) → get_or m₁ x 0 ≡ cond (in_it x) (with_inside (get_or old x 0)) (get_or old x 0)
  entered_is x = enters.words x
      ∙ ap (λ (b : Bool). cond b (with_inside (get_or old x 0)) (get_or old x 0)) (are-cells x)

  entered_tells : (y : ℕ) → y < cell_count g → ltb (get_or m₁ y 0) (2 ^ 31) ≡ not (in_it y)
  entered_tells y h = ap (λ (w : ℕ). ltb w (2 ^ 31)) (entered_is y) ∙ go (in_it y)
    where
      go : (b : Bool) → ltb (cond b (with_inside (get_or old y 0)) (get_or old y 0)) (2 ^ 31) ≡ not b
      go true = le-ltb (with_inside (get_or old y 0)) (2 ^ 31) (omega arith)
      go false = lt-ltb (get_or old y 0) (2 ^ 31) (none_inside y h)

  -- so those of them that are beside an outside cell are on the divide, and the others are enclosed
  entered_enclosed : (x : ℕ) → (in_it x && not (beside_outside g m₁ x)) ≡ enclosed_by g outlets o x
  entered_enclosed x = go (in_it x) refl
    where
      go : (b : Bool) → in_it x ≡ b → (b && not (beside_outside g m₁ x)) ≡ (b && not (on_divide g outlets o x))
      go true e = ap not (outside_divide g outlets o solid m₁ entered_tells x (inside_within g outlets o solid x e))
      go false e = refl

  pub enclosed_noted : {m₂ m₃ : List ℕ}
      → Changes with_enclosed (cell_count g) (λ x. member x cells && not (beside_outside g m₁ x)) m₁ m₂
      → Changes without_inside (cell_count g) (λ x. member x cells) m₂ m₃
      → Changes with_enclosed (cell_count g) (enclosed_by g outlets o) old m₃
  enclosed_noted notes leaves = record {
    kept = kept_then enters.kept (kept_then notes.kept leaves.kept);
    words = λ x. leaves.words x
        ∙ ap₂ (λ (b : Bool) (w : ℕ). cond b (without_inside w) w) (are-cells x)
        (notes.words x
        ∙ ap₂ (λ (b : Bool) (w : ℕ). cond (b && not (beside_outside g m₁ x)) (with_enclosed w) w) (are-cells x) (entered_is x))
        ∙ in_turn (in_it x) (not (beside_outside g m₁ x)) (get_or old x 0)
        ∙ passed_is (in_it x) (not (beside_outside g m₁ x)) (get_or old x 0)
        (λ e. none_inside x (inside_within g outlets o solid x e))
        ∙ ap (λ (b : Bool). cond b (with_enclosed (get_or old x 0)) (get_or old x 0)) (entered_enclosed x);
  }

-- ---- from one outlet to the next

-- an enclosed cell noted keeps the subaccumulations and the outlets
module _ {n : ℕ} {which : ℕ → Bool} {old new : List ℕ} (c : Changes with_enclosed n which old new) where
  pub still_noted : {g : Grid} {outlets : List ℕ} → Noted g outlets old → Noted g outlets new
  still_noted p = record {
    has_room = omega (arith, p.has_room, c.kept.same_length);
    cells = λ x h. ap cells_held (c.words x) ∙ same_cells (which x) (get_or old x 0) ∙ p.cells x h;
    outlet_notes = λ x h. ap (λ (w : ℕ). w / 2 ^ 29 % 2) (c.words x) ∙ same_outlet (which x) (get_or old x 0)
        ∙ p.outlet_notes x h;
  }
    where
      same_cells : (b : Bool) (w : ℕ) → cells_held (cond b (with_enclosed w) w) ≡ cells_held w
      same_cells true w = cells_enclosed w
      same_cells false w = refl

      same_outlet : (b : Bool) (w : ℕ) → cond b (with_enclosed w) w / 2 ^ 29 % 2 ≡ w / 2 ^ 29 % 2
      same_outlet true w = outlet_enclosed w
      same_outlet false w = refl

  -- and leaves no cell inside
  pub still_none_inside : (x : ℕ) → get_or old x 0 < 2 ^ 31 → get_or new x 0 < 2 ^ 31
  still_none_inside x h = omega (arith, c.words x, small (which x))
    where
      small : (b : Bool) → cond b (with_enclosed (get_or old x 0)) (get_or old x 0) < 2 ^ 31
      small true = omega arith
      small false = h

-- ---- first the outlets noted in a grid of subaccumulations

module _ (g : Grid) (outlets : List ℕ) {n : ℕ} {old new : List ℕ}
    (small : (x : ℕ) → x < cell_count g → get_or old x 0 ≤ 2 ^ 24) (c : NotesOutlets n outlets old new) where
  pub outlets_noted : cell_count g ≤ length old
      → ((x : ℕ) → x < cell_count g → get_or old x 0 ≡ subaccumulation g outlets x) → Noted g outlets new
  outlets_noted room holds = record {
    has_room = omega (arith, c.kept.same_length);
    cells = λ x h. ap cells_held (c.words x) ∙ read (member x outlets) (get_or old x 0) (small x h) ∙ holds x h;
    outlet_notes = λ x h. ap (λ (w : ℕ). w / 2 ^ 29 % 2) (c.words x)
        ∙ note (member x outlets) (get_or old x 0) (small x h);
  }
    where
      read : (b : Bool) (w : ℕ) → w ≤ 2 ^ 24 → cells_held (cond b (with_outlet w) w) ≡ w
      read true w h = omega arith
      read false w h = omega arith

      note : (b : Bool) (w : ℕ) → w ≤ 2 ^ 24 → cond b (with_outlet w) w / 2 ^ 29 % 2 ≡ cond b 1 0
      note true w h = omega arith
      note false w h = omega arith

  pub outlets_small : (x : ℕ) → x < cell_count g → get_or new x 0 < 2 ^ 30
  outlets_small x h = omega (arith, c.words x, below (member x outlets) (get_or old x 0) (small x h))
    where
      below : (b : Bool) (w : ℕ) → w ≤ 2 ^ 24 → cond b (with_outlet w) w < 2 ^ 30
      below true w k = omega arith
      below false w k = omega arith
