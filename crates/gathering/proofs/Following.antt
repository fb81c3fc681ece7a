-- Cells that follow others in a list, and cells that are noted as inside.
-- Assumes nothing.
use mathlib.Core.Path.{◌≡◌, refl, sym, ap, ◌∙◌, subst}
use mathlib.Core.Bool.{Bool, true, false, cond, ◌||◌, or_assoc}
use mathlib.Core.List.{List, [], ◌∷◌, ◌++◌, map, map-append, append-nil, append_assoc}
use Prim.Native.Nat.{ℕ, ◌+◌, ◌*◌, ◌/◌, ◌%◌, ◌≤◌, ◌<◌, ◌^◌}
use native.Mathlib.Numerals.{add-one}
use native.Mathlib.Omega.{arith}
use lib.ListN.{length, get_or, set, take, length-set, length-append}
use lib.Seq.{get_or-set_same, get_or-set_other, take-suc-set}
use lib.Arith.{digits_div, digits_mod}
use lib.Dec.{eqb}
use borrow.Author.Count.{below_more}
use borrow.Author.Tests.{eqb-true, eqb-false}
use Rattle.lists.specs.Lists.{member}
use Rattle.lists.proofs.Kept.{kept_all, kept_then, kept_wider, kept_set}
use Rattle.ground.specs.Grid.{Grid, cell_count}
use Rattle.notes.specs.Notes.{cells_held, with_inside, Noted}
use Rattle.notes.proofs.Notes.{cells_inside, outlet_inside, inside_again}
use Rattle.gathering.specs.Gathering.{cell_of, listed, OnList, Enters, Follow}

-- ---- the list

module _ {rows cols : ℕ} where
  pub follow_none : {n : ℕ} {l : List ℕ} → OnList rows cols l n → Follow rows cols [] n l n l
  follow_none on = record {
    listed_are = sym (append-nil _);
    count = omega arith;
    on_list = on;
    before = λ i h. refl;
    kept = kept_all;
  }

  -- one cell more
  pub follow_one : {n row col : ℕ} {l : List ℕ} → OnList rows cols l n → n < length l → row < rows → col < cols
      → cols ≤ 4096 → Follow rows cols ((row * cols + col) ∷ []) n l (n + 1) (set l n (row * 4096 + col))
  follow_one {n} {row} {col} {l} on h r c small = record {
    listed_are = ap (λ (m : ℕ). listed cols new m) (add-one n) ∙ ap (map (cell_of cols)) (take-suc-set l n v h)
        ∙ map-append (cell_of cols) (take n l) (v ∷ [])
        ∙ ap (λ (y : ℕ). listed cols l n ++ (y ∷ [])) (rw (is_row_lem, is_col));
    count = omega arith;
    on_list = record {
      within = omega (arith, length-set l n v);
      row_in = below_more (λ (i : ℕ). get_or new i 0 / 4096 < rows) n
          (λ i k. rw (other i k) (on.row_in i k)) (rw (here, is_row_lem) r);
      col_in = below_more (λ (i : ℕ). get_or new i 0 % 4096 < cols) n
          (λ i k. rw (other i k) (on.col_in i k)) (rw (here, is_col) c);
    };
    before = other;
    kept = kept_set n v (omega arith);
  }
    where
      v : ℕ
      v = row * 4096 + col

      new : List ℕ
      new = set l n v

      low : col < 4096
      low = omega arith

      is_row_lem : v / 4096 ≡ row
      is_row_lem = digits_div row low

      is_col : v % 4096 ≡ col
      is_col = digits_mod row low

      here : get_or new n 0 ≡ v
      here = get_or-set_same l n v 0 h

      other : (i : ℕ) → i < n → get_or new i 0 ≡ get_or l i 0
      other i k = get_or-set_other l n i v 0 (λ q. omega arith)

  -- more cells after some
  pub follow_then : {xs ys : List ℕ} {n m r : ℕ} {old mid new : List ℕ} → Follow rows cols xs n old m mid
      → Follow rows cols ys m mid r new → Follow rows cols (xs ++ ys) n old r new
  follow_then {xs} {ys} {n} {m} {r} {old} {mid} {new} p q = record {
    listed_are = q.listed_are ∙ ap (λ (zs : List ℕ). zs ++ ys) p.listed_are
        ∙ append_assoc (listed cols old n) xs ys;
    count = omega (arith, p.count, q.count, length-append xs ys);
    on_list = q.on_list;
    before = λ i h. q.before i (omega (arith, p.count)) ∙ p.before i h;
    kept = kept_then (kept_wider (omega (arith, q.count)) p.kept) q.kept;
  }

-- ---- the words

member_append : (x : ℕ) (xs ys : List ℕ) → member x (xs ++ ys) ≡ (member x xs || member x ys)
member_append x [] ys = refl
member_append x (y ∷ xs) ys = ap (λ (b : Bool). eqb y x || b) (member_append x xs ys)
    ∙ sym (or_assoc (eqb y x) (member x xs) (member x ys))

module _ {n : ℕ} where
  pub enter_none : {l : List ℕ} → Enters n [] l l
  enter_none = record { kept = kept_all; words = λ x. refl }

  pub enter_one : {x : ℕ} {l : List ℕ} → x < n → n ≤ length l → Enters n (x ∷ []) l (set l x (with_inside (get_or l x 0)))
  enter_one {x} {l} h r = record { kept = kept_set x v h; words = λ y. go y (eqb x y) refl }
    where
      v : ℕ
      v = with_inside (get_or l x 0)

      go : (y : ℕ) (b : Bool) → eqb x y ≡ b
          → get_or (set l x v) y 0 ≡ cond (b || false) (with_inside (get_or l y 0)) (get_or l y 0)
      go y true e = subst (λ (z : ℕ). get_or (set l x v) z 0 ≡ with_inside (get_or l z 0)) (eqb-true x y e)
          (get_or-set_same l x v 0 (omega arith))
      go y false e = get_or-set_other l x y v 0 (λ q. eqb-false x y e (sym q))

  pub enter_then : {xs ys : List ℕ} {old mid new : List ℕ} → Enters n xs old mid → Enters n ys mid new
      → Enters n (xs ++ ys) old new
  enter_then {xs} {ys} {old} {mid} {new} p q = record {
    kept = kept_then p.kept q.kept;
    words = λ x. q.words x
        ∙ ap (λ (w : ℕ). cond (member x ys) (with_inside w) w) (p.words x)
        ∙ twice (member x xs) (member x ys) (get_or old x 0)
        ∙ ap (λ (b : Bool). cond b (with_inside (get_or old x 0)) (get_or old x 0)) (sym (member_append x xs ys));
  }
    where
      twice : (a b : Bool) (w : ℕ) → cond b (with_inside (cond a (with_inside w) w)) (cond a (with_inside w) w)
          ≡ cond (a || b) (with_inside w) w
      twice true true w = inside_again w
      twice true false w = refl
      twice false b w = refl

  -- the same cells in another order
  pub enter_same : {xs ys : List ℕ} {old new : List ℕ} → ((x : ℕ) → member x ys ≡ member x xs) → Enters n xs old new
      → Enters n ys old new
  enter_same same p = record { kept = p.kept; words = λ x. rw (same x) (p.words x) }

-- the subaccumulations and the notes of the outlets stay
pub noted_still : {g : Grid} {outlets cells old new : List ℕ} → Noted g outlets old → Enters (cell_count g) cells old new
    → Noted g outlets new
noted_still {g} {outlets} {cells} {old} {new} a e = record {
  has_room = omega (arith, a.has_room, e.kept.same_length);
  cells = λ x h. ap cells_held (e.words x) ∙ same_cells (member x cells) (get_or old x 0) ∙ a.cells x h;
  outlet_notes = λ x h. ap (λ (w : ℕ). w / 2 ^ 29 % 2) (e.words x) ∙ same_note (member x cells) (get_or old x 0)
      ∙ a.outlet_notes x h;
}
  where
    same_cells : (b : Bool) (w : ℕ) → cells_held (cond b (with_inside w) w) ≡ cells_held w
    same_cells true w = cells_inside w
    same_cells false w = refl

    same_note : (b : Bool) (w : ℕ) → cond b (with_inside w) w / 2 ^ 29 % 2 ≡ w / 2 ^ 29 % 2
    same_note true w = outlet_inside w
    same_note false w = refl
