-- DEMAND 3 is proved: of the search by either edition, with and without dropping.
-- Assumes nothing.
use mathlib.Core.Path.{◌≡◌, refl, sym, ap, ◌∙◌, subst}
use mathlib.Core.Bool.{Bool, true, false, cond, not}
use mathlib.Core.Logic.{inl, inr, ◌↔◌}
use mathlib.Core.List.{List, [], ◌∷◌, map}
use mathlib.Core.Option.{some}
use Prim.Native.Nat.{ℕ, ◌+◌, ◌≤◌, ◌<◌}
use native.Mathlib.Omega.{arith}
use lib.ListN.{length, length-map, length-append}
use lib.Dec.{eqb}
use Rattle.lengths.specs.declared.Length.{Length}
use Rattle.lengths.specs.Rule.{counts, is_shorter}
use Rattle.lengths.proofs.Laws.{square_same}
use Rattle.lists.specs.Lists.{In, Sorted, only, member, how_many}
use Rattle.ground.specs.Compass.{Dir, squares}
use Rattle.ground.specs.Grid.{Grid, cell_count, ground, next, inflows}
use Rattle.ground.specs.Walk.{At}
use Rattle.ground.specs.Accumulation.{agrees, subaccumulation}
use Rattle.ground.specs.Subwatershed.{first_outlet, is_outlet, InSubwatershed, in_subwatershed, HasLength, Before, Longest}
use Rattle.ground.specs.Divide.{on_divide}
use Rattle.ground.specs.Forest.{Forest, bare, tree, size, forest, every_cell, cells_above, cells_from}
use Rattle.lists.proofs.Lists.{every_in, every_is, sorted_with, sorted_over, same_sorted, in_only, only_in, only_length}
use Rattle.ground.proofs.Walks.{after_zero}
use Rattle.ground.proofs.Network.{first_listed, cells_first}
use Rattle.ground.proofs.Subwatersheds.{first_meets, true_belongs}
use Rattle.ground.proofs.GridNetwork.{inflows_rise}
use Rattle.ground.proofs.Ground.{𝓝, squares_laws, inside_test, sub_cells, sub_size, length_first}
use Rattle.ground.proofs.Divide.{divide_exists}
use Rattle.search.specs.Search.{headwater, exceeded, longest, Rule, tight_limit, tracing_rule, search_from}
use Rattle.search.specs.Editions.{may_start, meets_by}
use Rattle.search.specs.Tracing.{first_length, tracing_by, tracing}
use Rattle.search.specs.Demand.{Demand3}
use Rattle.search.proofs.Meeting.{longest_is, is_longest}
use Rattle.search.proofs.Dropping.{tight_covers, search_longest, search_all, none_dropped}
use Rattle.search.proofs.Headwaters.{search_all_longest, longest_some}
use Rattle.search.proofs.Editions.{from_by}
use Rattle.search.proofs.Ordered.{parts_asym, longest_sorted}

-- lists
in_cell : (xs : List (At Length)) (c : ℕ) → In c (map (λ x. x.cell) xs)
    → (l : Length) × In (record { cell = c; len = l }) xs
in_cell [] c i = absurd i
in_cell (x ∷ xs) c (inl e) = (x.len, inl (λ t. record { cell = e t; len = x.len }))
in_cell (x ∷ xs) c (inr i) = let p = in_cell xs c i in (p.0, inr p.1)

cell_in : (xs : List (At Length)) (b : At Length) → In b xs → In b.cell (map (λ x. x.cell) xs)
cell_in [] b i = absurd i
cell_in (x ∷ xs) b (inl e) = inl (ap (λ (y : At Length). y.cell) e)
cell_in (x ∷ xs) b (inr i) = inr (cell_in xs b i)

first_len : (xs : List (At Length)) → ((b b' : At Length) → In b xs → In b' xs → b.len ≡ b'.len) → (b : At Length)
    → In b xs → b.len ≡ first_length xs
first_len [] h b i = absurd i
first_len (x ∷ xs) h b i = h b x i (inl refl)

some_length : (xs : List (At Length)) → (xs ≡ [] → ⊥) → 0 < length xs
some_length [] h = absurd (h refl)
some_length (x ∷ xs) h = omega arith

in_length : (b : At Length) (xs : List (At Length)) → In b xs → 0 < length xs
in_length b [] i = absurd i
in_length b (x ∷ xs) i = omega arith

longest_length_lem : (xs : List (At Length)) → 0 < length xs → 0 < length (longest squares xs)
longest_length_lem [] h = absurd (omega arith)
longest_length_lem (x ∷ xs) h = some_length (longest squares (x ∷ xs)) (longest_some squares squares_laws x xs)

only_all : (xs : List (At Length)) → only (λ x. true) xs ≡ xs
only_all [] = refl
only_all (x ∷ xs) = ap (λ l. x ∷ l) (only_all xs)

-- as many cells as the forest has
cells_length : (d : Length) (f : Forest Dir) → length (cells_above squares every_cell d f) ≡ size f
cells_length d bare = refl
cells_length d (tree c s above rest) =
    let there = squares.◌▹◌ d s in
    omega (
      arith,
      length-append (cells_above squares every_cell there above) (cells_above squares every_cell d rest),
      cells_length there above,
      cells_length d rest,
    )

module _ (g : Grid) (a : List ℕ) (h : agrees g a ≡ true) (outlets : List ℕ) (o : ℕ) (listed : member o outlets ≡ true)
    (v : ground g o ≡ true) where
  -- the cells of the subwatershed, each with the length of its walk
  abbrev cells : List (At Length)
  cells = cells_from squares every_cell o (forest g outlets o)

  -- the walk from a cell comes to o first, with this length
  Reaches : At Length → Type 0
  Reaches b = first_outlet squares (next g) (is_outlet g outlets) (cell_count g) b.cell
      ≡ some (record { cell = o; len = b.len })

  reached : (b : At Length) → In b cells → Reaches b
  unfolding Reaches forest
  reached b i = every_in Reaches b cells (cells_first squares (next g) (is_outlet g outlets) (inflows g) (ground g)
      (cell_count g) (𝓝 g) (cell_count g) o listed) i

  reaches : (b : At Length) → Reaches b → In b cells
  unfolding Reaches forest
  reaches b r = first_listed squares (next g) (is_outlet g outlets) (inflows g) (ground g) (cell_count g) (𝓝 g)
      (cell_count g)
      b.cell (record { cell = o; len = b.len }) r

  reaches_inside : (b : At Length) → Reaches b → InSubwatershed g outlets o b.cell
  unfolding Reaches
  reaches_inside b r = first_meets squares (next g) (is_outlet g outlets) (cell_count g) b.cell
      (record { cell = o; len = b.len }) r

  reaches_length : (b : At Length) → HasLength g outlets o b.cell b.len ↔ Reaches b
  unfolding Reaches
  reaches_length b = length_first g a h outlets o listed v b.cell b.len

  -- a list of the longest of the cells that may start
  module _ (may : ℕ → Bool) (xs : List (At Length))
      (lists : xs ≡ longest squares (only (λ x. may x.cell) cells)) where
    abbrev starts : List ℕ
    starts = map (λ x. x.cell) xs

    -- of a start: it reaches o, may start, and none that does is longer
    record Start (b : At Length) : Type 0 where
      there : Reaches b
      may_start_lem : may b.cell ≡ true
      none_longer : (c : At Length) → Reaches c → may c.cell ≡ true → is_shorter b.len c.len ≡ false

    listed_may : (c : At Length) → Reaches c → may c.cell ≡ true → In c (only (λ x. may x.cell) cells)
    listed_may c r m = only_in (λ x. may x.cell) c cells (reaches c r) m

    start_of : (b : At Length) → In b xs → Start b
    start_of b i =
        let p = longest_is squares (only (λ x. may x.cell) cells) b (subst (In b) lists i) in
        let q = in_only (λ x. may x.cell) b cells p.0 in
        record { there = reached b q.0; may_start_lem = q.1; none_longer = λ c r m. p.1 c (listed_may c r m) }

    of_start : (b : At Length) → Start b → In b xs
    of_start b s = subst (In b) (sym lists) (is_longest squares (only (λ x. may x.cell) cells) b
        (listed_may b s.there s.may_start_lem)
        (λ c i. let q = in_only (λ x. may x.cell) c cells i in s.none_longer c (reached c q.0) q.1))

    exact : (c : ℕ) → In c starts ↔ Longest g outlets may o c
    exact c = (there, back)
      where
        there : In c starts → Longest g outlets may o c
        there i =
            let p = in_cell xs c i in
            let s = start_of (record { cell = c; len = p.0 }) p.1 in
            record {
              inside = reaches_inside (record { cell = c; len = p.0 }) s.there;
              starts = s.may_start_lem;
              len = p.0;
              has = (reaches_length (record { cell = c; len = p.0 })).1 s.there;
              none_longer = λ y l m t k. s.none_longer (record { cell = y; len = l })
                  ((reaches_length (record { cell = y; len = l })).0 k) t;
            }

        back : Longest g outlets may o c → In c starts
        back m = cell_in xs (record { cell = c; len = m.len }) (of_start (record { cell = c; len = m.len }) (record {
          there = (reaches_length (record { cell = c; len = m.len })).0 m.has;
          may_start_lem = m.starts;
          none_longer = λ b r t. m.none_longer b.cell b.len (reaches_inside b r) t ((reaches_length b).1 r);
        }))

    ordered : Sorted (Before g outlets) starts
    unfolding forest
    ordered = sorted_over (λ x. x.cell) (Before g outlets) xs
        (subst (Sorted (λ x y. Before g outlets x.cell y.cell)) (sym lists)
        (longest_sorted squares squares_laws (next g) (is_outlet g outlets) (inflows g) (ground g) (cell_count g) (𝓝 g)
        (inflows_rise g) may (cell_count g) o listed))

    once : Sorted (λ x y. x ≡ y → ⊥) starts
    once = sorted_with (Before g outlets) (λ x y. x ≡ y → ⊥) (λ x. ℕ)
        (λ x y p q b e. let b' = subst (Before g outlets x) (sym e) b in parts_asym _ _ b' b') starts
        (every_is (λ x. ℕ) starts (λ x i. x)) ordered

    unique : (ys : List ℕ) → ((c : ℕ) → In c ys ↔ Longest g outlets may o c) → Sorted (Before g outlets) ys
        → ys ≡ starts
    unique ys f s = same_sorted (Before g outlets) (λ x y. parts_asym _ _) ys starts s ordered
        (λ c i. (exact c).1 ((f c).0 i)) (λ c i. (f c).1 ((exact c).0 i))

    -- all starts have one length
    same_lengths : (b c : At Length) → In b xs → In c xs → b.len ≡ c.len
    same_lengths b c i j =
        let p = start_of b i in
        let q = start_of c j in
        square_same b.len c.len (p.none_longer c q.there q.may_start_lem)
        (q.none_longer b p.there p.may_start_lem)

    lengths : (c : ℕ) → In c starts → HasLength g outlets o c (first_length xs)
    lengths c i =
        let p = in_cell xs c i in
        let b : At Length = record { cell = c; len = p.0 } in
        subst (HasLength g outlets o c) (first_len xs same_lengths b p.1)
        ((reaches_length b).1 (start_of b p.1).there)

    -- no more than cells
    few : length xs ≤ subaccumulation g outlets o
    few =
        let may_start_lem = only (λ x. may x.cell) cells in
        rw (lists, sub_size g a h outlets o v)
        (omega (
          arith,
          only_length (λ x. not (exceeded squares may_start_lem x.len)) may_start_lem,
          only_length (λ (x : At Length). may x.cell) cells,
          cells_length (counts 0 0) (forest g outlets o),
        ))

    -- there is one if any cell may start
    some_start : (c : ℕ) → InSubwatershed g outlets o c → may c ≡ true → 0 < length xs
    unfolding Reaches in_subwatershed
    some_start c i m =
        let r = true_belongs squares (next g) (is_outlet g outlets) (cell_count g) o c
        ((inside_test g a h outlets o listed v c).0 i) in
        subst (λ (l : List (At Length)). 0 < length l) (sym lists)
        (longest_length_lem (only (λ x. may x.cell) cells)
        (in_length (record { cell = c; len = r.0 }) (only (λ x. may x.cell) cells)
        (listed_may (record { cell = c; len = r.0 }) r.1 m)))

  -- every cell is visited or dropped
  counted : (rule : Rule squares) → (tracing_by rule g outlets o).visited + (tracing_by rule g outlets o).dropped
      ≡ how_many (in_subwatershed g outlets o) (cell_count g)
  unfolding tracing_by
  counted rule = search_all squares rule o (forest g outlets o) ∙ sym (sub_size g a h outlets o v)
      ∙ sym (sub_cells g a h outlets o listed v)

  -- THE DEMAND, of a search by two rules that list the longest of the cells that may start, the second without dropping
  module _ (may : ℕ → Bool) (rule plain : Rule squares) (off : plain.dropping ≡ false)
      (lists : (search_from squares rule o (forest g outlets o)).starts
      ≡ longest squares (only (λ x. may x.cell) cells))
      (plain-lists : (search_from squares plain o (forest g outlets o)).starts ≡ longest squares
      (only (λ x. may x.cell) cells))
      (c : ℕ) (inside : InSubwatershed g outlets o c) (starts-there : may c ≡ true) where
    none_there : (tracing_by plain g outlets o).dropped ≡ 0
    unfolding tracing_by
    none_there = none_dropped squares plain off o (forest g outlets o)

    pub demand : Demand3 g outlets may o (tracing_by rule g outlets o) (tracing_by plain g outlets o)
    unfolding tracing_by
    demand = record {
      exact = exact may xs lists;
      once = once may xs lists;
      ordered = ordered may xs lists;
      unique = unique may xs lists;
      lengths = lengths may xs lists;
      number = sym (length-map xs (λ x. x.cell));
      not_none = some_start may xs lists c inside starts-there;
      few = few may xs lists;
      counts = counted rule;
      cells = sub_cells g a h outlets o listed v;
      plain_counts = (omega (arith, counted plain, none_there), none_there);
      same_starts = ap (map (λ x. x.cell)) same;
      same_len = ap first_length same;
      same_paths = ap length same;
    }
      where
        xs : List (At Length)
        xs = (search_from squares rule o (forest g outlets o)).starts

        same : (search_from squares rule o (forest g outlets o)).starts
            ≡ (search_from squares plain o (forest g outlets o)).starts
        same = lists ∙ sym plain-lists

  outlet_inside : InSubwatershed g outlets o o
  outlet_inside = record { steps = 0; meets = after_zero (next g) o; no_other = λ j x i. absurd (omega arith) }

  -- by either edition the search lists the longest of the cells that may start
  lists : (edition : ℕ) (dropping : Bool)
      → (search_from squares (tracing_rule squares (meets_by edition g outlets o) dropping) o (forest g outlets o)).starts
      ≡ longest squares (only (λ x. may_start edition g outlets o x.cell) cells)
  lists edition dropping = by (eqb edition 2)
    where
      by : (b : Bool) → (search_from squares (tracing_rule squares (λ c above. cond b (on_divide g outlets o c)
          (headwater c above)) dropping) o (forest g outlets o)).starts
          ≡ longest squares (only (λ x. cond b (on_divide g outlets o x.cell) true) cells)
      by true = search_longest squares squares_laws
          (tracing_rule squares (λ c above. on_divide g outlets o c) dropping) (tight_covers squares squares_laws) o
          (forest g outlets o)
          ∙ ap (longest squares) (from_by squares (on_divide g outlets o) o (forest g outlets o))
      by false = search_all_longest squares squares_laws (tight_limit squares) (tight_covers squares squares_laws)
          dropping o (forest g outlets o) ∙ ap (longest squares) (sym (only_all cells))

  -- by either edition some cell may start
  start_exists : (edition : ℕ) → (c : ℕ) × InSubwatershed g outlets o c × (may_start edition g outlets o c ≡ true)
  start_exists edition = by (eqb edition 2)
    where
      by : (b : Bool) → (c : ℕ) × InSubwatershed g outlets o c × (cond b (on_divide g outlets o c) true ≡ true)
      by true =
          let d = divide_exists g outlets o o ((inside_test g a h outlets o listed v o).0 outlet_inside) in
          (d.cell, (inside_test g a h outlets o listed v d.cell).1 d.inside, d.divides)
      by false = (o, outlet_inside, refl)

  -- THE THEOREM: by either edition, with and without dropping
  pub demand3 : (edition : ℕ) (dropping : Bool) → Demand3 g outlets (may_start edition g outlets o) o
      (tracing edition dropping g outlets o) (tracing edition false g outlets o)
  demand3 edition dropping =
      let s = start_exists edition in
      demand (may_start edition g outlets o) (tracing_rule squares (meets_by edition g outlets o) dropping)
      (tracing_rule squares (meets_by edition g outlets o) false) refl (lists edition dropping) (lists edition false)
      s.0 s.1 s.2
