-- The grid made ready for searches by an edition: the notes of one outlet after the other, and what they tell.
-- Assumes nothing.
use mathlib.Core.Path.{◌≡◌, refl, sym, ap, ◌∙◌}
use mathlib.Core.Bool.{Bool, true, false, cond, not, true≢false}
use mathlib.Core.List.{List}
use mathlib.Core.Option.{Option, none, some}
use Prim.Native.Nat.{ℕ, zero, suc, ◌+◌, ◌*◌, ◌≤◌, ◌<◌, ◌^◌}
use native.Mathlib.Omega.{arith}
use native.Mathlib.Decide.{dec_lt}
use lib.ListN.{length, get_or}
use lib.Dec.{eqb, ltb}
use lib.Seq.{ext_get_or}
use borrow.Author.Tests.{lt-ltb, le-ltb, eq-eqb, ne_eqb}
use Rattle.lists.specs.Slices.{Kept, Within}
use Rattle.lists.proofs.Lists.{and_both}
use Rattle.lists.proofs.Kept.{kept_all, kept_then, kept_wider}
use Rattle.lengths.specs.declared.Length.{Length}
use Rattle.ground.specs.Compass.{squares}
use Rattle.ground.specs.Grid.{Grid, grid_of, cell_count, ground, next}
use Rattle.ground.specs.Walk.{At}
use Rattle.ground.specs.Accumulation.{subaccumulation}
use Rattle.ground.specs.Subwatershed.{is_outlet, in_subwatershed}
use Rattle.ground.specs.Divide.{on_divide}
use Rattle.ground.specs.Forest.{size, forest}
use Rattle.ground.proofs.Cells.{null_sub, ground_within}
use Rattle.ground.proofs.Ground.{sub_size, sub_at_most}
use Rattle.ground.proofs.Subwatersheds.{true_belongs}
use Rattle.search.proofs.Faithful.{headwater_is}
use Rattle.moves.proofs.Spots as spots
use Rattle.notes.specs.Notes.{cells_held, with_enclosed, Noted}
use Rattle.divide.specs.Divides.{Changes, NotesOutlets, CanNote, enclosed_by}
use Rattle.divide.proofs.Outside.{inside_ground, inside_within}
use Rattle.divide.proofs.Noting.{outlets_noted, outlets_small, still_noted, still_none_inside}
use Rattle.upstream.specs.Ready.{Ready}
use Rattle.noting.specs.Noting.{Fresh, cells_at_place, Readied, Unnoted}

-- a cell is in the subwatershed of one outlet only
one_outlet : (g : Grid) (outlets : List ℕ) (o p x : ℕ) → in_subwatershed g outlets o x ≡ true
    → in_subwatershed g outlets p x ≡ true → o ≡ p
unfolding in_subwatershed
one_outlet g outlets o p x i k =
    let r = true_belongs squares (next g) (is_outlet g outlets) (cell_count g) o x i in
    let s = true_belongs squares (next g) (is_outlet g outlets) (cell_count g) p x k in
    ap (λ (a : Option (At Length)). elim a [ none ↦ o | some b ↦ b.cell ]) (sym r.1 ∙ s.1)

-- a number from 1 on is below 2 if it is 1
low_one : (n m : ℕ) → n ≡ suc m → ltb n 2 ≡ eqb n 1
low_one n zero e = lt-ltb n 2 (omega arith) ∙ sym (eq-eqb n 1 e)
low_one n (suc m) e = le-ltb n 2 (omega arith) ∙ sym (ne_eqb n 1 (λ k. omega arith))

-- the outlets are noted, and the cells that those from one place to before another enclose, and no others
pub record Marked (rows cols : ℕ) (codes outlets : List ℕ) (first k : ℕ) (words : List ℕ) : Type 0 where
  pub noted : Noted (grid_of rows cols codes) outlets words
  pub none_inside : (x : ℕ) → x < rows * cols → get_or words x 0 < 2 ^ 31
  pub marked : (j : ℕ) → first ≤ j → j < k → (x : ℕ)
      → enclosed_by (grid_of rows cols codes) outlets (get_or outlets j 0) x ≡ true → 2 ^ 30 ≤ get_or words x 0
  pub only : (x : ℕ) → x < rows * cols → 2 ^ 30 ≤ get_or words x 0
      → (j : ℕ) × (first ≤ j) × (j < k) × (enclosed_by (grid_of rows cols codes) outlets (get_or outlets j 0) x ≡ true)

-- a list changed in no more numbers than the largest of these outlets has cells
abbrev pub ListKept : (rows cols : ℕ) (codes outlets : List ℕ) (first end : ℕ) → List ℕ → List ℕ → Type 0
ListKept rows cols codes outlets first end list list' = (most : ℕ)
    → ((j : ℕ) → first ≤ j → j < end → cells_at_place rows cols codes outlets j ≤ most) → Kept most list list'

-- one outlet more
pub list_next : (rows cols : ℕ) (codes outlets : List ℕ) {first k : ℕ} {l m r : List ℕ} → first ≤ k
    → ListKept rows cols codes outlets first k l m → Kept (cells_at_place rows cols codes outlets k) m r
    → ListKept rows cols codes outlets first (k + 1) l r
list_next rows cols codes outlets {k = k} h a b most f =
    kept_then (a most (λ j p q. f j p (omega arith))) (kept_wider (f k h (omega arith)) b)

module _ {rows cols : ℕ} {codes outlets old : List ℕ} (fresh : Fresh rows cols codes outlets old) where
  abbrev g : Grid
  g = grid_of rows cols codes

  abbrev o : ℕ → ℕ
  o j = get_or outlets j 0

  pub few : rows * cols ≤ 2 ^ 24
  few = spots.size fresh.grid_lent.sides

  small_sub : (x : ℕ) → subaccumulation g outlets x ≤ 2 ^ 24
  small_sub x = go (ground g x) refl
    where
      go : (b : Bool) → ground g x ≡ b → subaccumulation g outlets x ≤ 2 ^ 24
      go true v = omega (arith, few, sub_at_most g fresh.accumulation fresh.agreed outlets x v)
      go false v = omega (arith, null_sub g outlets x v)

  small : (x : ℕ) → x < rows * cols → get_or old x 0 ≤ 2 ^ 24
  small x h = omega (arith, fresh.filled x h, small_sub x)

  pub outlets_within : Within (rows * cols) outlets
  outlets_within j h = ground_within g (o j) (fresh.on_ground j h)

  -- ---- BY EDITION 1 the grid is ready as it is

  made : {words : List ℕ} → rows * cols ≤ length words
      → ((x : ℕ) → x < rows * cols → cells_held (get_or words x 0) ≡ subaccumulation g outlets x)
      → Ready rows cols codes outlets words
  made r f = record {
    grid = fresh.grid_lent;
    has_subaccumulations = r;
    lent = fresh.accumulation;
    agreed = fresh.agreed;
    filled = f;
  }

  held : (x : ℕ) → x < rows * cols → cells_held (get_or old x 0) ≡ subaccumulation g outlets x
  held x h = omega (arith, fresh.filled x h, small x h)

  pub ready_plain : {edition first end : ℕ} {list : List ℕ} → eqb edition 2 ≡ false → end ≤ length outlets
      → Readied edition rows cols codes outlets first end old list old list
  ready_plain {edition} {first} {end} e in_list = record {
    ready = made fresh.has_room held;
    met = λ j a b x i. rw e (ap (λ (n : ℕ). ltb n 2) (fresh.filled x (within j b x i))
        ∙ low_one (subaccumulation g outlets x) (size (forest g outlets x))
        (sub_size g fresh.accumulation fresh.agreed outlets x (solid j b x i))
        ∙ sym (headwater_is g fresh.accumulation fresh.agreed outlets x (solid j b x i)));
    kept = kept_all;
    unnoted = λ f. refl;
    list_kept = λ most f. kept_all;
  }
    where
      solid : (j : ℕ) → j < end → (x : ℕ) → in_subwatershed g outlets (o j) x ≡ true → ground g x ≡ true
      solid j b x i = inside_ground g outlets (o j) (fresh.on_ground j (omega arith)) x i

      within : (j : ℕ) → j < end → (x : ℕ) → in_subwatershed g outlets (o j) x ≡ true → x < rows * cols
      within j b x i = ground_within g x (solid j b x i)

  -- ---- BY EDITION 2 the enclosed cells are noted, one outlet after the other

  module _ (first : ℕ) where
    pub marked_begin : {words : List ℕ} → NotesOutlets (rows * cols) outlets old words
        → Marked rows cols codes outlets first first words
    marked_begin c = record {
      noted = outlets_noted g outlets small c fresh.has_room fresh.filled;
      none_inside = λ x h. omega (arith, outlets_small g outlets small c x h);
      marked = λ j a b. absurd (omega arith);
      only = λ x h k. absurd (omega (arith, outlets_small g outlets small c x h));
    }

    module _ {k : ℕ} {words : List ℕ} (m : Marked rows cols codes outlets first k words) where
      pub can_note : {list : List ℕ} → k < length outlets → cells_at_place rows cols codes outlets k ≤ length list
          → CanNote rows cols codes outlets k words list
      can_note h r = record {
        grid_lent = fresh.grid_lent;
        some_cols = fresh.some_cols;
        accumulation = fresh.accumulation;
        agreed = fresh.agreed;
        in_list = h;
        solid = fresh.on_ground k h;
        noted = m.noted;
        none_inside = m.none_inside;
        room = r;
      }

      pub marked_next : {new : List ℕ} → first ≤ k → Changes with_enclosed (rows * cols) (enclosed_by g outlets (o k)) words new
          → Marked rows cols codes outlets first (k + 1) new
      marked_next {new} a c = record {
        noted = still_noted c m.noted;
        none_inside = λ x h. still_none_inside c x (m.none_inside x h);
        marked = λ j p q x d. elim (dec_lt j k) [
          | yes l ↦ stays x (m.marked j p l x d)
          | no l ↦ comes x (sym (ap (λ (i : ℕ). enclosed_by g outlets (o i) x) (same j l q)) ∙ d)
        ];
        only = λ x h p. from x h p (enclosed_by g outlets (o k) x) refl;
      }
        where
          same : (j : ℕ) → (j < k → ⊥) → j < k + 1 → j ≡ k
          same j l q = omega arith

          grown : (b : Bool) (w : ℕ) → 2 ^ 30 ≤ w → 2 ^ 30 ≤ cond b (with_enclosed w) w
          grown true w h = omega arith
          grown false w h = h

          stays : (x : ℕ) → 2 ^ 30 ≤ get_or words x 0 → 2 ^ 30 ≤ get_or new x 0
          stays x h = omega (arith, c.words x, grown (enclosed_by g outlets (o k) x) (get_or words x 0) h)

          comes : (x : ℕ) → enclosed_by g outlets (o k) x ≡ true → 2 ^ 30 ≤ get_or new x 0
          comes x d = let e : get_or new x 0 ≡ with_enclosed (get_or words x 0) = c.words x ∙ rw d in omega (arith, e)

          from : (x : ℕ) → x < rows * cols → 2 ^ 30 ≤ get_or new x 0 → (b : Bool) → enclosed_by g outlets (o k) x ≡ b
              → (j : ℕ) × (first ≤ j) × (j < k + 1) × (enclosed_by g outlets (o j) x ≡ true)
          from x h p true d = (k, a, omega arith, d)
          from x h p false d =
              let e : get_or new x 0 ≡ get_or words x 0 = c.words x ∙ rw d in
              let r = m.only x h (omega (arith, e)) in
              (r.0, r.1, omega (arith, r.2), r.3)

    -- THE NOTES TELL where a length is met
    module _ {end : ℕ} (in_list : end ≤ length outlets) {words : List ℕ}
        (m : Marked rows cols codes outlets first end words) where
      told : (j : ℕ) → first ≤ j → j < end → (x : ℕ) → in_subwatershed g outlets (o j) x ≡ true
          → ltb (get_or words x 0) (2 ^ 30) ≡ on_divide g outlets (o j) x
      told j a b x i = go (on_divide g outlets (o j) x) refl
        where
          within : x < rows * cols
          within = inside_within g outlets (o j) (fresh.on_ground j (omega arith)) x i

          go : (d : Bool) → on_divide g outlets (o j) x ≡ d → ltb (get_or words x 0) (2 ^ 30) ≡ d
          go false d = le-ltb (get_or words x 0) (2 ^ 30) (m.marked j a b x (rw (i, d)))
          go true d = elim (dec_lt (get_or words x 0) (2 ^ 30)) [
            | yes l ↦ lt-ltb (get_or words x 0) (2 ^ 30) l
            | no l ↦ absurd (other (m.only x within (omega arith)))
          ]
            where
              other : (p : ℕ) × (first ≤ p) × (p < end) × (enclosed_by g outlets (o p) x ≡ true) → ⊥
              other r =
                  let q = and_both (in_subwatershed g outlets (o r.0) x) (not (on_divide g outlets (o r.0) x)) r.3 in
                  let e = one_outlet g outlets (o r.0) (o j) x q.0 i in
                  true≢false (sym q.1 ∙ ap (λ (y : ℕ). not (on_divide g outlets y x)) e ∙ ap not d)

      pub ready_marked : {edition : ℕ} {list list' : List ℕ} → eqb edition 2 ≡ true → Kept (rows * cols) old words
          → ListKept rows cols codes outlets first end list list'
          → Readied edition rows cols codes outlets first end old list words list'
      ready_marked e k l = record {
        ready = made m.noted.has_room m.noted.cells;
        met = λ j a b x i. rw e (told j a b x i);
        kept = k;
        unnoted = λ f. absurd (true≢false (sym e ∙ f));
        list_kept = l;
      }

  -- ---- AFTER THE SEARCHES the grid is as it was

  pub restored : {edition first end : ℕ} {list words list' new : List ℕ}
      → Readied edition rows cols codes outlets first end old list words list' → Unnoted edition (rows * cols) words new
      → new ≡ old
  restored {edition} {words = words} {new = new} r u = ext_get_or 0 new old (u.kept.same_length ∙ r.kept.same_length)
      (λ x h. elim (dec_lt x (rows * cols)) [
        | yes l ↦ u.words x l ∙ go x l (eqb edition 2) refl
        | no l ↦ u.kept.rest x (omega arith) ∙ r.kept.rest x (omega arith)
      ])
    where
      go : (x : ℕ) → x < rows * cols → (b : Bool) → eqb edition 2 ≡ b
          → cond b (cells_held (get_or words x 0)) (get_or words x 0) ≡ get_or old x 0
      go x l true e = r.ready.filled x l ∙ sym (fresh.filled x l)
      go x l false e = ap (λ (ws : List ℕ). get_or ws x 0) (r.unnoted e)
