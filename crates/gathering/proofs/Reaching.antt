-- Cells of a subwatershed reached from its outlet, one after the other with its tributaries: none is left out, and
-- there are no more than its subaccumulation says. Assumes nothing.
use mathlib.Core.Path.{◌≡◌, refl, sym, ap, ◌∙◌, subst}
use mathlib.Core.Bool.{Bool, true, false, true≢false}
use mathlib.Core.Logic.{inl}
use mathlib.Core.List.{List, [], ◌∷◌, ◌++◌, map}
use Prim.Native.Nat.{ℕ, zero, suc, ◌+◌, ◌≤◌, ◌<◌}
use native.Mathlib.Numerals.{add-one}
use native.Mathlib.Omega.{arith}
use borrow.Author.Count.{below_more}
use lib.ListN.{length, get_or, take, drop, length-map, length-append, length-drop, take-append-drop, get_or-append}
use lib.Seq.{drop-append-le}
use Rattle.lists.specs.Lists.{In, Every, member, sum_of}
use Rattle.lists.proofs.Lists.{every_append, every_at, every_in, every_is, in_left, in_right}
use Rattle.lists.proofs.Members.{position_of, in_member, member_in}
use Rattle.lists.proofs.Sums.{sum_left}
use Rattle.ground.specs.Compass.{dirs, squares}
use Rattle.ground.specs.Grid.{Grid, cell_count, ground, next}
use Rattle.ground.specs.Accumulation.{agrees, subaccumulation}
use Rattle.ground.specs.Subwatershed.{longer, is_outlet, in_subwatershed}
use Rattle.ground.proofs.Network.{first_out, first_next, first_induct}
use Rattle.ground.proofs.Subwatersheds.{first_meets, belongs_true, true_belongs}
use Rattle.ground.proofs.Ground.{𝓝, sub_size, inside_test}
use Rattle.search.proofs.Neighbours.{cells_above_lem}
use Rattle.gathering.specs.Gathering.{tributaries, exchanged}
use Rattle.gathering.proofs.Tributaries.{joins, joined, from_cells}
use Rattle.gathering.proofs.Exchanging.{Exchange, exchange, every_still, in_still, take_before}
use Rattle.gathering.proofs.Exchanging.{map_exchanged, sum_exchanged}

every_drop : (P : ℕ → Type 0) (k : ℕ) (xs : List ℕ) → Every P xs → Every P (drop k xs)
every_drop P zero xs h = h
every_drop P (suc k) [] h = h
every_drop P (suc k) (x ∷ xs) h = every_drop P k xs h.1

sum_append : (f : ℕ → ℕ) (xs ys : List ℕ) → sum_of (map f (xs ++ ys)) ≡ sum_of (map f xs) + sum_of (map f ys)
unfolding sum_of
sum_append f [] ys = omega arith
sum_append f (x ∷ xs) ys = omega (arith, sum_append f xs ys)

sum_split : (f : ℕ → ℕ) (k : ℕ) (xs : List ℕ)
    → sum_of (map f (take k xs)) + sum_of (map f (drop k xs)) ≡ sum_of (map f xs)
sum_split f k xs = sym (sum_append f (take k xs) (drop k xs))
    ∙ ap (λ (l : List ℕ). sum_of (map f l)) (take-append-drop k xs)

-- an outlet of ground, where some accumulation agrees
pub record Outlet (g : Grid) (outlets : List ℕ) (o : ℕ) : Type 0 where
  pub accumulation : List ℕ
  pub agreed : agrees g accumulation ≡ true
  pub outlet_is : member o outlets ≡ true
  pub solid : ground g o ≡ true

-- a cell of ground inside the subwatershed of o
pub record Inside (g : Grid) (outlets : List ℕ) (o c : ℕ) : Type 0 where
  pub belongs : in_subwatershed g outlets o c ≡ true
  pub solid : ground g c ≡ true

-- cells reached from o, with all tributaries of the first k, and how many cells lie above the others
pub record Reached (g : Grid) (outlets : List ℕ) (o k : ℕ) (cells : List ℕ) : Type 0 where
  pub within : k ≤ length cells
  pub starts : In o cells
  pub inside : Every (Inside g outlets o) cells
  pub followed : (i : ℕ) → i < k → (y : ℕ) → In y (tributaries g outlets (get_or cells i 0) dirs) → In y cells
  pub counted : k + sum_of (map (subaccumulation g outlets) (drop k cells)) ≡ subaccumulation g outlets o

module _ {g : Grid} {outlets : List ℕ} {o : ℕ} (out : Outlet g outlets o) where
  abbrev sub : ℕ → ℕ
  sub x = subaccumulation g outlets x

  -- ---- inside

  outlet_inside : Inside g outlets o o
  unfolding in_subwatershed
  outlet_inside = record {
    belongs = belongs_true squares (next g) (is_outlet g outlets) (cell_count g) o o squares.start
        (first_out squares (next g) (is_outlet g outlets) (cell_count g) o out.outlet_is);
    solid = out.solid;
  }

  -- a tributary of a cell inside is inside
  inside_above : (x y : ℕ) → Inside g outlets o x → In y (tributaries g outlets x dirs) → Inside g outlets o y
  unfolding in_subwatershed
  inside_above x y h i =
      let j = joins g outlets x h.solid y i in
      let r = true_belongs squares (next g) (is_outlet g outlets) (cell_count g) o x h.belongs in
      record {
        belongs = (inside_test g out.accumulation out.agreed outlets o out.outlet_is out.solid y).0
            (first_meets squares (next g) (is_outlet g outlets) (suc (cell_count g)) y _
            (first_next squares (next g) (is_outlet g outlets) (cell_count g) y (record { cell = x; step = j.step })
            j.not_outlet j.flows ∙ ap (longer squares j.step) r.1));
        solid = (𝓝 g).solid y (record { cell = x; step = j.step }) j.flows;
      }

  -- ---- how many

  each_counts : (xs : List ℕ) → Every (Inside g outlets o) xs → length xs ≤ sum_of (map sub xs)
  unfolding sum_of
  each_counts [] h = omega arith
  each_counts (x ∷ xs) h = omega (
    arith,
    each_counts xs h.1,
    sub_size g out.accumulation out.agreed outlets x h.0.solid,
  )

  pub reached_few : {k : ℕ} {cells : List ℕ} → Reached g outlets o k cells → length cells ≤ sub o
  reached_few {k} {cells} r = omega (
    arith,
    r.within,
    r.counted,
    length-drop k cells,
    each_counts (drop k cells) (every_drop (Inside g outlets o) k cells r.inside),
  )

  -- ---- the outlet, then the tributaries of one cell more

  pub reached_first : Reached g outlets o 0 (o ∷ [])
  unfolding sum_of
  reached_first = record {
    within = omega arith;
    starts = inl refl;
    inside = (outlet_inside, tt);
    followed = λ i h. absurd (omega arith);
    counted = omega arith;
  }

  pub reached_next : {k : ℕ} {cells : List ℕ} → Reached g outlets o k cells → k < length cells
      → Reached g outlets o (k + 1) (cells ++ tributaries g outlets (get_or cells k 0) dirs)
  reached_next {k} {cells} r h = record {
    within = omega (arith, length-append cells more);
    starts = in_left o cells more r.starts;
    inside = every_append (Inside g outlets o) cells more r.inside
        (every_is (Inside g outlets o) more (λ y i. inside_above x y here i));
    followed = below_more (λ (i : ℕ). (y : ℕ) → In y (tributaries g outlets (get_or (cells ++ more) i 0) dirs)
        → In y (cells ++ more)) k
        (λ i l y m. in_left y cells more (r.followed i l y (still i (omega arith) y m)))
        (λ y m. in_right y cells more (still k h y m));
    counted = omega (
      arith,
      r.counted,
      sum_left sub cells k h,
      cells_above_lem g out.accumulation out.agreed outlets x here.solid,
      from_cells g outlets x dirs,
      ap (λ (n : ℕ). sum_of (map sub (drop n (cells ++ more)))) (add-one k),
      ap (λ (l : List ℕ). sum_of (map sub l)) (drop-append-le (suc k) cells more (omega arith)),
      sum_append sub (drop (suc k) cells) more,
    );
  }
    where
      x : ℕ
      x = get_or cells k 0

      more : List ℕ
      more = tributaries g outlets x dirs

      here : Inside g outlets o x
      here = every_at (Inside g outlets o) cells r.inside k h

      still : (i : ℕ) → i < length cells → (y : ℕ) → In y (tributaries g outlets (get_or (cells ++ more) i 0) dirs)
          → In y (tributaries g outlets (get_or cells i 0) dirs)
      still i l y m = subst (λ (c : ℕ). In y (tributaries g outlets c dirs)) (get_or-append cells more 0 i l) m

  -- ---- another cell next

  pub reached_exchanged : {k l : ℕ} {cells : List ℕ} → Reached g outlets o k cells → k ≤ l → l < length cells
      → Reached g outlets o k (exchanged cells k l)
  reached_exchanged {k} {l} {cells} r h i = record {
    within = omega (arith, r.within, e.same_length);
    starts = in_still e o r.starts;
    inside = every_still e (Inside g outlets o) r.inside;
    followed = λ j m y t. in_still e y (r.followed j m y
        (subst (λ (c : ℕ). In y (tributaries g outlets c dirs))
        (e.at_others j (λ q. omega arith) (λ q. omega arith)) t));
    counted = omega (
      arith,
      r.counted,
      sum_split sub k cells,
      sum_split sub k (exchanged cells k l),
      ap (λ (xs : List ℕ). sum_of (map sub xs)) (take_before cells k l h),
      ap sum_of (map_exchanged sub cells k l (omega arith) i),
      sum_exchanged (map sub cells) k l (omega (arith, length-map cells sub)) (omega (arith, length-map cells sub)),
    );
  }
    where
      e : Exchange cells (exchanged cells k l) k l
      e = exchange cells k l (omega arith) i

  -- ---- at the end

  module _ {k : ℕ} {cells : List ℕ} (r : Reached g outlets o k cells) (all : length cells ≤ k) where
    reached_above : (x y : ℕ) → In x cells → In y (tributaries g outlets x dirs) → In y cells
    reached_above x y i j =
        let p = position_of x cells (in_member x cells i) in
        r.followed p.at (omega (arith, p.inside)) y
        (subst (λ (c : ℕ). In y (tributaries g outlets c dirs)) (sym p.holds) j)

    reached_all : (c : ℕ) → in_subwatershed g outlets o c ≡ true → In c cells
    unfolding in_subwatershed
    reached_all c e =
        let f = true_belongs squares (next g) (is_outlet g outlets) (cell_count g) o c e in
        first_induct squares (next g) (is_outlet g outlets) (λ n x b. b.cell ≡ o → In x cells)
        (λ n x v q. subst (λ (z : ℕ). In z cells) (sym q) r.starts)
        (λ n x h b v m w ih q. reached_above h.cell x (ih q) (joined g outlets x h m v))
        (cell_count g) c _ f.1 refl

    pub reached_cells : (c : ℕ) → member c cells ≡ in_subwatershed g outlets o c
    reached_cells c = go (member c cells) refl (in_subwatershed g outlets o c) refl
      where
        go : (b : Bool) → member c cells ≡ b → (d : Bool) → in_subwatershed g outlets o c ≡ d → b ≡ d
        go true e d f = sym (every_in (Inside g outlets o) c cells r.inside (member_in c cells e)).belongs ∙ f
        go false e true f = absurd (true≢false (sym (in_member c cells (reached_all c f)) ∙ e))
        go false e false f = refl
