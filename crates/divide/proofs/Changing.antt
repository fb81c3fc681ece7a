-- Words changed one after the other: which of them have their change so far.
-- Assumes nothing.
use mathlib.Core.Path.{◌≡◌, refl, sym, ap, ◌∙◌, subst}
use mathlib.Core.Bool.{Bool, true, false, cond, not, ◌&&◌, ◌||◌, or-true, or-false, or_assoc}
use mathlib.Core.List.{List, [], ◌∷◌, ◌++◌, map}
use Prim.Native.Nat.{ℕ, zero, suc, ◌+◌, ◌-◌, ◌*◌, ◌/◌, ◌%◌, ◌≤◌, ◌<◌, ◌^◌}
use native.Mathlib.Numerals.{add-one}
use native.Mathlib.Omega.{arith}
use lib.ListN.{length, get_or, set, take, drop, length-append, length-drop, get_or-append}
use lib.Seq.{get_or-set_same, get_or-set_other, get_or-take, get_or-append_right, get_or-drop, length-take-le, take_all}
use lib.Arith.{digits_lt}
use lib.Dec.{eqb, ltb}
use borrow.Author.Tests.{eqb-true, eqb-false, lt-ltb, le-ltb, ltb-true, ltb-false}
use Rattle.lists.specs.Lists.{member}
use Rattle.lists.proofs.Kept.{kept_all, kept_then, kept_set}
use Rattle.lists.proofs.Members.{member_next}
use Rattle.ground.specs.Grid.{grid_of}
use Rattle.notes.specs.Notes.{cells_held, with_outlet, with_enclosed, without_inside}
use Rattle.notes.proofs.Notes.{outlet_again, enclosed_again, left_again}
use Rattle.gathering.specs.Gathering.{cell_of, listed, OnList}
use Rattle.divide.specs.Divides.{Changes, ClearsNotes, NotesOutlets, LeavesCells, NotesCells, beside_outside}
use Rattle.divide.proofs.Beside.{beside_same}

-- ---- THE LAW, for any change that made twice is made once

module _ {change : ℕ → ℕ} {n : ℕ} {p : ℕ → Bool} {l : List ℕ} where
  pub changes_none : ((x : ℕ) → p x ≡ false) → Changes change n p l l
  changes_none e = record {
    kept = kept_all;
    words = λ x. sym (ap (λ (b : Bool). cond b (change (get_or l x 0)) (get_or l x 0)) (e x));
  }

  module _ {m : List ℕ} (c : Changes change n p l m) {q : ℕ → Bool} where
    pub changes_same : ((x : ℕ) → q x ≡ p x) → Changes change n q l m
    changes_same e = record {
      kept = c.kept;
      words = λ x. c.words x ∙ ap (λ (b : Bool). cond b (change (get_or l x 0)) (get_or l x 0)) (sym (e x));
    }

    pub changes_more : ((w : ℕ) → change (change w) ≡ change w) → {i : ℕ} → i < n → n ≤ length l
        → ((x : ℕ) → q x ≡ (p x || eqb i x)) → Changes change n q l (set m i (change (get_or m i 0)))
    changes_more again {i} h r e = record {
      kept = kept_then c.kept (kept_set i (change (get_or m i 0)) h);
      words = λ x. go x (eqb i x) refl;
    }
      where
        once : (b : Bool) (w : ℕ) → change (cond b (change w) w) ≡ change w
        once true w = again w
        once false w = refl

        at_i : get_or (set m i (change (get_or m i 0))) i 0 ≡ change (get_or l i 0)
        at_i = get_or-set_same m i (change (get_or m i 0)) 0 (omega (arith, c.kept.same_length)) ∙ ap change (c.words i)
            ∙ once (p i) (get_or l i 0)

        go : (x : ℕ) (b : Bool) → eqb i x ≡ b
            → get_or (set m i (change (get_or m i 0))) x 0 ≡ cond (q x) (change (get_or l x 0)) (get_or l x 0)
        go x true f =
            subst (λ (y : ℕ). get_or (set m i (change (get_or m i 0))) y 0 ≡ change (get_or l y 0)) (eqb-true i x f) at_i
            ∙ sym (ap (λ (b : Bool). cond b (change (get_or l x 0)) (get_or l x 0))
            (e x ∙ ap (λ (b : Bool). p x || b) f ∙ or-true (p x)))
        go x false f = get_or-set_other m i x (change (get_or m i 0)) 0 (λ s. eqb-false i x f (sym s)) ∙ c.words x
            ∙ sym (ap (λ (b : Bool). cond b (change (get_or l x 0)) (get_or l x 0))
            (e x ∙ ap (λ (b : Bool). p x || b) f ∙ or-false (p x)))

-- ---- the first j outlets

pub outlets_more : {n j o : ℕ} (outlets : List ℕ) {l m : List ℕ} → o ≡ get_or outlets j 0 → j < length outlets
    → get_or outlets j 0 < n → n ≤ length l → Changes with_outlet n (λ x. member x (take j outlets)) l m
    → Changes with_outlet n (λ x. member x (take (j + 1) outlets)) l (set m o (with_outlet (get_or m o 0)))
outlets_more {n} {j} outlets s h i r c = changes_more c outlet_again (omega arith) r
    (λ x. member_next outlets j h x ∙ ap (λ (y : ℕ). member x (take j outlets) || eqb y x) (sym s))

pub outlets_all : {n : ℕ} (j : ℕ) (outlets : List ℕ) {l m : List ℕ} → length outlets ≤ j
    → Changes with_outlet n (λ x. member x (take j outlets)) l m → NotesOutlets n outlets l m
outlets_all j outlets h c = changes_same c (λ x. ap (member x) (sym (take_all j outlets h)))

-- ---- all words before the i-th

cells_again : (w : ℕ) → cells_held (cells_held w) ≡ cells_held w
cells_again w = omega arith

-- x is below i + 1, or not
below_next : (i x : ℕ) → ltb x (i + 1) ≡ (ltb x i || eqb i x)
below_next i x = go (ltb x i) refl (eqb i x) refl
  where
    go : (a : Bool) → ltb x i ≡ a → (b : Bool) → eqb i x ≡ b → ltb x (i + 1) ≡ (a || b)
    go true e b f = lt-ltb x (i + 1) (omega (arith, ltb-true x i e))
    go false e true f = lt-ltb x (i + 1) (omega (arith, eqb-true i x f))
    go false e false f = le-ltb x (i + 1) (next (eqb-false i x f) (ltb-false x i e))
      where
        next : (i ≡ x → ⊥) → i ≤ x → i + 1 ≤ x
        next n h = omega arith

pub clears_none : {n : ℕ} {l : List ℕ} → Changes cells_held n (λ x. ltb x 0) l l
clears_none = changes_none (λ x. le-ltb x 0 (omega arith))

pub clears_more : {n i : ℕ} {l m : List ℕ} → i < n → n ≤ length l → Changes cells_held n (λ x. ltb x i) l m
    → Changes cells_held n (λ x. ltb x (i + 1)) l (set m i (cells_held (get_or m i 0)))
clears_more {n} {i} h r c = changes_more c cells_again h r (below_next i)

-- the first n words are clear, and what follows them is as it was
pub clears_all : {n i : ℕ} {l m : List ℕ} → n ≤ length l → length (take n l) ≤ i
    → Changes cells_held n (λ x. ltb x i) (take n l) m → ClearsNotes n l (m ++ drop n l)
clears_all {n} {i} {l} {m} h e c = record {
  kept = record {
    same_length = omega (arith, length-append m (drop n l), length-drop n l, many);
    rest = λ x k. get_or-append_right m (drop n l) x 0 (omega (arith, many)) ∙ get_or-drop n l (x - length m) 0
        ∙ ap (λ (y : ℕ). get_or l y 0) (omega (arith, many));
  };
  words = λ x k. get_or-append m (drop n l) 0 x (omega (arith, many)) ∙ c.words x
      ∙ ap (λ (b : Bool). cond b (cells_held (get_or (take n l) x 0)) (get_or (take n l) x 0))
      (lt-ltb x i (omega (arith, length-take-le n l h))) ∙ ap cells_held (get_or-take n l x 0 k);
}
  where
    many : length m ≡ n
    many = c.kept.same_length ∙ length-take-le n l h

-- ---- the first k cells of a list

mapped_more : (f : ℕ → ℕ) (xs : List ℕ) (j : ℕ) → j < length xs → (x : ℕ)
    → member x (map f (take (suc j) xs)) ≡ (member x (map f (take j xs)) || eqb (f (get_or xs j 0)) x)
mapped_more f [] j h x = absurd (omega arith)
mapped_more f (y ∷ xs) zero h x = or-false (eqb (f y) x)
mapped_more f (y ∷ xs) (suc j) h x =
    ap (λ (b : Bool). eqb (f y) x || b) (mapped_more f xs j (omega arith) x)
    ∙ sym (or_assoc (eqb (f y) x) (member x (map f (take j xs))) (eqb (f (get_or xs j 0)) x))

-- an enclosed cell noted leaves a word below 2³¹ or not, as it was
enclosed_low : (w : ℕ) → ltb (with_enclosed w) (2 ^ 31) ≡ ltb w (2 ^ 31)
enclosed_low w = go (ltb w (2 ^ 31)) refl
  where
    go : (b : Bool) → ltb w (2 ^ 31) ≡ b → ltb (with_enclosed w) (2 ^ 31) ≡ b
    go true e = lt-ltb (with_enclosed w) (2 ^ 31) (omega (arith, ltb-true w (2 ^ 31) e))
    go false e = le-ltb (with_enclosed w) (2 ^ 31) (omega (arith, ltb-false w (2 ^ 31) e))

low_cond : (b : Bool) (w : ℕ) → ltb (cond b (with_enclosed w) w) (2 ^ 31) ≡ ltb w (2 ^ 31)
low_cond true w = enclosed_low w
low_cond false w = refl

-- one cell more that passes a test, or that does not
and_or : (a e b : Bool) → (e ≡ true → b ≡ true) → ((a || e) && b) ≡ ((a && b) || e)
and_or a false b f = ap (λ (t : Bool). t && b) (or-false a) ∙ sym (or-false (a && b))
and_or true true b f = rw (f refl)
and_or false true b f = f refl

and_past : (a e b : Bool) → (e ≡ true → b ≡ false) → ((a || e) && b) ≡ (a && b)
and_past a false b f = ap (λ (t : Bool). t && b) (or-false a)
and_past true true b f = refl
and_past false true b f = f refl

-- number k of the first n
abbrev pub number_at : ℕ → List ℕ → ℕ → ℕ
number_at n list k = get_or (take n list) k 0

module _ {rows cols n k : ℕ} {list : List ℕ} (on : OnList rows cols list n) (h : k < length (take n list)) where
  below : k < n
  below = omega (arith, length-take-le n list on.within)

  is : number_at n list k ≡ get_or list k 0
  is = get_or-take n list k 0 below

  pub cell_row : number_at n list k / 4096 < rows
  cell_row = rw is (on.row_in k below)

  pub cell_col : number_at n list k % 4096 < cols
  cell_col = rw is (on.col_in k below)

  abbrev here : ℕ
  here = cell_of cols (number_at n list k)

  pub cell_inside : cell_of cols (number_at n list k) < rows * cols
  cell_inside = digits_lt cell_row cell_col

  listed_more : (x : ℕ) → member x (listed cols list (k + 1)) ≡ (member x (listed cols list k) || eqb here x)
  listed_more x = ap (λ (j : ℕ). member x (listed cols list j)) (add-one k)
      ∙ mapped_more (cell_of cols) list k (omega (arith, on.within, below)) x
      ∙ ap (λ (y : ℕ). member x (listed cols list k) || eqb (cell_of cols y) x) (sym is)

  module _ {l m : List ℕ} (r : rows * cols ≤ length l) where
    pub leaves_more : LeavesCells rows cols k list l m
        → LeavesCells rows cols (k + 1) list l (set m (cell_of cols (number_at n list k))
        (without_inside (get_or m (cell_of cols (number_at n list k)) 0)))
    leaves_more c = changes_more c left_again cell_inside r listed_more

    -- those beside no outside cell; the test is made on the present words
    module _ (codes : List ℕ) (c : NotesCells rows cols codes k list l m) where
      was_beside : (x : ℕ) → beside_outside (grid_of rows cols codes) m x ≡ beside_outside (grid_of rows cols codes) l x
      was_beside x = beside_same (grid_of rows cols codes) m l x (λ y. ap (λ (w : ℕ). ltb w (2 ^ 31)) (c.words y)
          ∙ low_cond (member y (listed cols list k) && not (beside_outside (grid_of rows cols codes) l y)) (get_or l y 0))

      -- what the test says of the cell at hand
      at_here : {t b : Bool} → t ≡ beside_outside (grid_of rows cols codes) m here → not t ≡ b → (x : ℕ)
          → eqb here x ≡ true → not (beside_outside (grid_of rows cols codes) l x) ≡ b
      at_here e k x f = ap (λ (y : ℕ). not (beside_outside (grid_of rows cols codes) l y)) (sym (eqb-true here x f))
          ∙ ap not (sym (was_beside here) ∙ sym e) ∙ k

      abbrev new : ℕ → Bool
      new x = member x (listed cols list (k + 1)) && not (beside_outside (grid_of rows cols codes) l x)

      new_is : (x : ℕ) → new x
          ≡ ((member x (listed cols list k) || eqb here x) && not (beside_outside (grid_of rows cols codes) l x))
      new_is x = ap (λ (t : Bool). t && not (beside_outside (grid_of rows cols codes) l x)) (listed_more x)

      pub notes_more : {t : Bool}
          → t ≡ beside_outside (grid_of rows cols codes) m (cell_of cols (number_at n list k)) → not t ≡ true
          → NotesCells rows cols codes (k + 1) list l (set m (cell_of cols (number_at n list k))
          (with_enclosed (get_or m (cell_of cols (number_at n list k)) 0)))
      notes_more e f = changes_more c enclosed_again cell_inside r
          (λ x. new_is x ∙ and_or (member x (listed cols list k)) (eqb here x)
          (not (beside_outside (grid_of rows cols codes) l x)) (at_here e f x))

      pub notes_past : {t : Bool}
          → t ≡ beside_outside (grid_of rows cols codes) m (cell_of cols (number_at n list k)) → not t ≡ false
          → NotesCells rows cols codes (k + 1) list l m
      notes_past e f = changes_same c
          (λ x. new_is x ∙ and_past (member x (listed cols list k)) (eqb here x)
          (not (beside_outside (grid_of rows cols codes) l x)) (at_here e f x))
