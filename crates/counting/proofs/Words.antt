-- The word of a cell: which neighbours flow in, and how many.
-- Assumes nothing.
use mathlib.Core.Path.{◌≡◌, refl, sym, ap, ◌∙◌}
use mathlib.Core.Bool.{Bool, true, false, cond}
use mathlib.Core.List.{List, [], ◌∷◌}
use mathlib.Core.Option.{Option as Maybe, none, some}
use Rattle.std.specs.Prelude.{Option, Some, None, is_some}
use Prim.Native.Nat.{ℕ, zero, suc, ◌+◌, ◌*◌, ◌≤◌, ◌<◌, ◌^◌}
use native.Mathlib.Numerals.{add-one}
use native.Mathlib.Omega.{arith}
use Rattle.std.specs.List.{count_by}
use Rattle.std.proofs.Math.Nat.{suc-ne-zero}
use Rattle.std.proofs.lemmas.List.FromFn.{fill_by_all}
use lib.ListN.{length, get_or}
use Rattle.lists.specs.Lists.{how_many}
use Rattle.lists.proofs.Counts.{many_le}
use Rattle.ground.specs.Compass.{Dir, E, SE, S, SW, W, NW, N, NE, dirs}
use Rattle.ground.specs.Grid.{Grid, Link, grid_of, cell_count, ground, neighbour, flows_in, inflow}
use Rattle.ground.specs.Grid.{inflows_from, inflows}
use Rattle.ground.proofs.Cells.{ground_inflows, null_at, ground_at}
use Rattle.cells.specs.declared.Cell.{Cell}
use Rattle.moves.specs.Moves.{dir_at}
use Rattle.moves.specs.Walks.{if_flows_in, inflow_from, FlowsFrom}
use Rattle.inflows.specs.Values.{flows_at}
use Rattle.counting.specs.Counting.{word_by, counted_word}

-- ---- does a neighbour flow in?

module _ (g : Grid) (d : Dir) where
  none_flows : (o : Maybe ℕ) → none ≡ if_flows_in g d o → false ≡ flows_in g d o
  none_flows none e = refl
  none_flows (some y) e = go (flows_in g d (some y)) refl
    where
      go : (b : Bool) → flows_in g d (some y) ≡ b → false ≡ flows_in g d (some y)
      go true q = let z : none ≡ some y = e ∙ rw q in cc
      go false q = sym q

  some_flows : (o : Maybe ℕ) {z : ℕ} → some z ≡ if_flows_in g d o → true ≡ flows_in g d o
  some_flows none e = cc
  some_flows (some y) {z} e = go (flows_in g d (some y)) refl
    where
      go : (b : Bool) → flows_in g d (some y) ≡ b → true ≡ flows_in g d (some y)
      go true q = sym q
      go false q = let w : some z ≡ none = e ∙ rw q in cc

-- one does where a cell is found
pub flows_if : {rows cols row col k : ℕ} {codes : List ℕ} (s : Option Cell) → FlowsFrom rows cols codes row col k s
    → is_some s ≡ flows_at (grid_of rows cols codes) (row * cols + col) k
unfolding inflow_from
flows_if {rows} {cols} {row} {col} {k} {codes} None p =
    none_flows (grid_of rows cols codes) (dir_at k)
    (neighbour (grid_of rows cols codes) (row * cols + col) (dir_at k)) p.is_cell
flows_if {rows} {cols} {row} {col} {k} {codes} (Some y) p =
    some_flows (grid_of rows cols codes) (dir_at k)
    (neighbour (grid_of rows cols codes) (row * cols + col) (dir_at k)) p.is_cell

-- ---- how many do

-- eight answers
eight_are : (f : ℕ → Bool) (flows : List Bool) → length flows ≡ 8
    → ((j : ℕ) → j < 8 → get_or flows j false ≡ f j) → count_by (λ b. b) flows ≡ how_many f 8
unfolding how_many
eight_are f flows e h = ap (count_by (λ b. b)) (fill_by_all f flows 8 false e h)

module _ (g : Grid) (x : ℕ) where
  one_more : (d : Dir) (o : Maybe ℕ) (ks : List (Link Dir))
      → length (inflow g d o ks) ≡ cond (flows_in g d o) 1 0 + length ks
  one_more d none ks = omega arith
  one_more d (some y) ks = go (flows_in g d (some y)) refl
    where
      go : (b : Bool) → flows_in g d (some y) ≡ b
          → length (inflow g d (some y) ks) ≡ cond (flows_in g d (some y)) 1 0 + length ks
      go true e = rw e (omega arith)
      go false e = rw e (omega arith)

  next_more : (d : Dir) (ds : List Dir)
      → length (inflows_from g (d ∷ ds) x) ≡ cond (flows_in g d (neighbour g x d)) 1 0 + length (inflows_from g ds x)
  next_more d ds = one_more d (neighbour g x d) (inflows_from g ds x)

  all_eight : how_many (flows_at g x) 8 ≡ length (inflows_from g dirs x)
  unfolding how_many
  all_eight = omega (
    arith,
    next_more E (SE ∷ S ∷ SW ∷ W ∷ NW ∷ N ∷ NE ∷ []),
    next_more SE (S ∷ SW ∷ W ∷ NW ∷ N ∷ NE ∷ []),
    next_more S (SW ∷ W ∷ NW ∷ N ∷ NE ∷ []),
    next_more SW (W ∷ NW ∷ N ∷ NE ∷ []),
    next_more W (NW ∷ N ∷ NE ∷ []),
    next_more NW (N ∷ NE ∷ []),
    next_more N (NE ∷ []),
    next_more NE [],
  )

  -- THE WORD
  pub ground_word : ground g x ≡ true → counted_word g x ≡ suc (2 ^ 25 * length (inflows g x))
  unfolding counted_word
  ground_word v = rw v

  pub null_word : ground g x ≡ false → counted_word g x ≡ 0
  unfolding counted_word
  null_word v = rw v

  pub word_is : {code : ℕ} (flows : List Bool) → code ≡ get_or g.codes x 0 → x < cell_count g → length flows ≡ 8
      → ((j : ℕ) → j < 8 → get_or flows j false ≡ flows_at g x j)
      → word_by code (count_by (λ b. b) flows) ≡ counted_word g x
  word_is {code} flows e i l h = go code e
    where
      go : (c : ℕ) → c ≡ get_or g.codes x 0 → word_by c (count_by (λ b. b) flows) ≡ counted_word g x
      go zero f = sym (null_word (null_at g x i (sym f)))
      go (suc c) f =
          let v = ground_at g x i (λ q. suc-ne-zero c (f ∙ q)) in
          omega (
            arith,
            ap (λ m. 2 ^ 25 * m)
                (eight_are (flows_at g x) flows l h ∙ all_eight ∙ ap length (sym (ground_inflows g x v))),
            ground_word v,
          )

  -- A WORD AT WORK: the inflows among the first k neighbours are counted
  pub record SoFar (k w : ℕ) : Type 0 where
    pub few : k ≤ 8
    pub is_word : w ≡ suc (2 ^ 25 * how_many (flows_at g x) k)

  pub begin : SoFar 0 1
  unfolding how_many
  begin = record { few = omega arith; is_word = omega arith }

module _ {g : Grid} {x k w : ℕ} (s : SoFar g x k w) where
  pub fits : w + 2 ^ 25 < 2 ^ 32
  fits = omega (arith, s.few, s.is_word, many_le (flows_at g x) k)

  -- one neighbour more is looked at, and flows in or not
  module _ (h : k < 8) {flows : Bool} (e : flows ≡ flows_at g x k) where
    pub more : flows ≡ true → SoFar g x (k + 1) (w + 2 ^ 25)
    unfolding how_many
    more t =
        let m : how_many (flows_at g x) (k + 1) ≡ how_many (flows_at g x) k + 1 = rw (add-one k, sym e ∙ t) refl in
        record { few = omega arith; is_word = omega (arith, s.is_word, m) }

    pub no_more : flows ≡ false → SoFar g x (k + 1) w
    unfolding how_many
    no_more t =
        let m : how_many (flows_at g x) (k + 1) ≡ how_many (flows_at g x) k + 0 = rw (add-one k, sym e ∙ t) refl in
        record { few = omega arith; is_word = omega (arith, s.is_word, m) }

  -- all eight are
  pub all_counted : 8 ≤ k → ground g x ≡ true → w ≡ counted_word g x
  all_counted h v =
      let q : k ≡ 8 = omega (arith, s.few) in
      s.is_word ∙ ap (λ (n : ℕ). suc (2 ^ 25 * how_many (flows_at g x) n)) q
      ∙ ap (λ (n : ℕ). suc (2 ^ 25 * n)) (all_eight g x ∙ ap length (sym (ground_inflows g x v)))
      ∙ sym (ground_word g x v)
