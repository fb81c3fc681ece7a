-- SMITH'S METHOD is proved: downstream and upstream length add up to the length told exactly on the listed paths.
-- Assumes nothing.
use mathlib.Core.Path.{◌≡◌, refl, sym, ap, ◌∙◌, subst}
use mathlib.Core.Bool.{Bool, true, false}
use mathlib.Core.Logic.{inl, ◌↔◌}
use mathlib.Core.List.{List, [], ◌∷◌}
use mathlib.Core.Option.{Option, some}
use Prim.Native.Nat.{ℕ, ◌+◌, ◌<◌}
use native.Mathlib.Omega.{arith}
use lib.ListN.{length}
use Rattle.lengths.specs.declared.Length.{Length}
use Rattle.lengths.specs.Rule.{counts, is_shorter}
use Rattle.lengths.proofs.Laws.{square_laws, square_same, sum_no_shorter}
use Rattle.lists.specs.Lists.{In, member}
use Rattle.ground.specs.Compass.{squares}
use Rattle.ground.specs.Grid.{Grid, cell_count, ground, next}
use Rattle.ground.specs.Walk.{At}
use Rattle.ground.specs.Accumulation.{agrees}
use Rattle.ground.specs.Subwatershed.{is_outlet, InSubwatershed, HasLength}
use Rattle.ground.specs.FlowLengths.{FlowLengths, through_length, upstream_length, arrival, flow_lengths}
use Rattle.ground.proofs.Subwatersheds.{first_meets}
use Rattle.ground.proofs.FlowLengths.{length_arrives, inside_arrives, arrival_outlet}
use Rattle.ground.proofs.Through.{path_ends, through, flow_at, flow_outside, through_outlet, through_path}
use Rattle.ground.proofs.Through.{HeadAbove, head_above}
use Rattle.search.specs.Tracing.{Tracing, longest_length, start_cells, tracing}
use Rattle.search.specs.Editions.{may_start}
use Rattle.search.specs.Demand.{Demand3}
use Rattle.search.specs.Smith.{OnListedPath, Smith}
use Rattle.search.proofs.Demand3.{demand3}

some_in : (xs : List ℕ) → 0 < length xs → (s : ℕ) × In s xs
some_in [] h = absurd (omega arith)
some_in (x ∷ xs) h = (x, inl refl)

-- what adds nothing is 0
adds_nothing : (l m : Length) → counts (l.straight + m.straight) (l.diagonal + m.diagonal) ≡ l → m ≡ counts 0 0
adds_nothing l m e =
    let p : l.straight + m.straight ≡ l.straight = ap (λ (x : Length). x.straight) e in
    let q : l.diagonal + m.diagonal ≡ l.diagonal = ap (λ (x : Length). x.diagonal) e in
    let s : m.straight ≡ 0 = omega arith in
    let d : m.diagonal ≡ 0 = omega arith in
    λ i. counts (s i) (d i)

module _ (g : Grid) (a : List ℕ) (h : agrees g a ≡ true) (outlets : List ℕ) (o : ℕ) (listed : member o outlets ≡ true)
    (v : ground g o ≡ true) where
  -- the walk from a cell comes to o first, with this length
  Comes : ℕ → Length → Type 0
  Comes c l = arrival g outlets c ≡ some (record { cell = o; len = l })

  comes_length : (c : ℕ) (l : Length) → HasLength g outlets o c l ↔ Comes c l
  unfolding Comes
  comes_length = length_arrives g a h outlets o listed v

  comes_inside : (c : ℕ) (l : Length) → Comes c l → InSubwatershed g outlets o c
  unfolding Comes arrival
  comes_inside c l e = first_meets squares (next g) (is_outlet g outlets) (cell_count g) c
      (record { cell = o; len = l }) e

  inside_comes : (c : ℕ) → InSubwatershed g outlets o c → (l : Length) × Comes c l
  unfolding Comes
  inside_comes = inside_arrives g a h outlets o listed v

  comes_one : (c : ℕ) (l m : Length) → Comes c l → Comes c m → l ≡ m
  unfolding Comes
  comes_one c l m e f =
      let p : ◌≡◌ {A = Option (At Length)} (some (record { cell = o; len = l })) (some (record { cell = o; len = m }))
      = sym e ∙ f in
      let q : ◌≡◌ {A = At Length} (record { cell = o; len = l }) (record { cell = o; len = m }) = cc in
      ap (λ (x : At Length). x.len) q

  -- the lengths of such a cell
  comes_flow : (c : ℕ) (l : Length) → Comes c l
      → flow_lengths g outlets c ≡ record { down = l; up = upstream_length g outlets c }
  unfolding Comes
  comes_flow c l e = flow_at g outlets c (record { cell = o; len = l }) e

  -- no cell's add up to more than the outlet's upstream length
  below_outlet : (c : ℕ) (l : Length) → Comes c l
      → is_shorter (upstream_length g outlets o) (through g outlets c) ≡ false
  unfolding Comes arrival
  below_outlet c l e = subst (λ (m : Length). is_shorter m (through g outlets c) ≡ false)
      (through_outlet g outlets o listed)
      (through_path g a h outlets c (record { cell = o; len = l }) e o
      (path_ends squares (next g) (is_outlet g outlets) (cell_count g) c (record { cell = o; len = l }) e))

  head_of : (c : ℕ) (l : Length) → Comes c l → HeadAbove g outlets c (record { cell = o; len = l })
  unfolding Comes
  head_of c l e = head_above g a h outlets c (record { cell = o; len = l }) e v

  head_comes : (c : ℕ) (l : Length) (u : HeadAbove g outlets c (record { cell = o; len = l }))
      → Comes u.head (through g outlets c)
  unfolding Comes
  head_comes c l u = u.arrives

  outlet_comes : Comes o (counts 0 0)
  unfolding Comes
  outlet_comes = arrival_outlet g outlets o listed

  -- of what is told of o
  module _ (t plain : Tracing) (demand : Demand3 g outlets (may_start 1 g outlets o) o t plain) where
    told : Length
    told = longest_length t

    start_comes : (s : ℕ) → In s (start_cells t) → Comes s told
    unfolding told
    start_comes s i = (comes_length s told).0 (demand.lengths s i)

    a_start : (s : ℕ) × In s (start_cells t)
    a_start = some_in (start_cells t) (subst (λ (n : ℕ). 0 < n) demand.number demand.not_none)

    -- no walk is longer
    none_longer : (c : ℕ) (l : Length) → Comes c l → is_shorter told l ≡ false
    none_longer c l e =
        let s = a_start in
        let m = (demand.exact s.0).0 s.1 in
        let p = comes_one s.0 m.len told ((comes_length s.0 m.len).0 m.has) (start_comes s.0 s.1) in
        subst (λ (x : Length). is_shorter x l ≡ false) p
        (m.none_longer c l (comes_inside c l e) refl ((comes_length c l).1 e))

    -- the sum of a start is the length told, and more
    start_sum : (s : ℕ) → In s (start_cells t) → is_shorter (through g outlets s) told ≡ false
    start_sum s i = subst (λ (x : FlowLengths). is_shorter (through_length x) told ≡ false)
        (sym (comes_flow s told (start_comes s i)))
        (sum_no_shorter told (upstream_length g outlets s))

    -- THE OUTLET: the head above it has the outlet's upstream length, and a start adds up to no more than that
    outlet_told : upstream_length g outlets o ≡ told
    outlet_told = square_same (upstream_length g outlets o) told at_least at_most
      where
        at_least : is_shorter (upstream_length g outlets o) told ≡ false
        at_least =
            let s = a_start in
            square_laws.trans told (through g outlets s.0) (upstream_length g outlets o) (start_sum s.0 s.1)
            (below_outlet s.0 told (start_comes s.0 s.1))

        at_most : is_shorter told (upstream_length g outlets o) ≡ false
        at_most =
            let u = head_of o (counts 0 0) outlet_comes in
            subst (λ (x : Length). is_shorter told x ≡ false) (through_outlet g outlets o listed)
            (none_longer u.head (through g outlets o) (head_comes o (counts 0 0) u))

    never_exceeds : (c : ℕ) (l : Length) → Comes c l → is_shorter told (through g outlets c) ≡ false
    never_exceeds c l e = subst (λ (x : Length). is_shorter x (through g outlets c) ≡ false) outlet_told
        (below_outlet c l e)

    -- A START: between the two
    start_told : (s : ℕ) → In s (start_cells t) → through g outlets s ≡ told
    start_told s i = square_same (through g outlets s) told (start_sum s i)
        (never_exceeds s told (start_comes s i))

    -- THE LISTED PATHS: a cell whose lengths add up to the length told has a start above it,
    told_listed : (c : ℕ) (l : Length) → Comes c l → through g outlets c ≡ told → OnListedPath g outlets t c
    told_listed c l e p =
        let u = head_of c l e in
        let k = subst (Comes u.head) p (head_comes c l u) in (
          u.head,
          (demand.exact u.head).1 (record {
            inside = comes_inside u.head told k;
            starts = refl;
            len = told;
            has = (comes_length u.head told).1 k;
            none_longer = λ y m i w q. none_longer y m ((comes_length y m).0 q);
          }),
          u.on_path,
        )

    -- and along a path from a start the sum neither falls nor exceeds it
    listed_told : (c : ℕ) (l : Length) → Comes c l → OnListedPath g outlets t c → through g outlets c ≡ told
    unfolding Comes
    listed_told c l e p =
        square_same (through g outlets c) told
        (subst (λ (x : Length). is_shorter (through g outlets c) x ≡ false) (start_told p.0 p.1)
        (through_path g a h outlets p.0 (record { cell = o; len = told }) (start_comes p.0 p.1) c p.2))
        (never_exceeds c l e)

    told_laws : Smith g outlets o t
    unfolding told
    told_laws = record {
      downstream = λ c l k. ap (λ (x : FlowLengths). x.down) (comes_flow c l ((comes_length c l).0 k));
      smith = λ c i. let r = inside_comes c i in (told_listed c r.0 r.1, listed_told c r.0 r.1);
      never_exceeds = λ c i. let r = inside_comes c i in never_exceeds c r.0 r.1;
      outlet_up = ap (λ (x : FlowLengths). x.up) (comes_flow o (counts 0 0) outlet_comes) ∙ outlet_told;
      start_lengths = λ s i. let e = comes_flow s told (start_comes s i) in (
        ap (λ (x : FlowLengths). x.up) e
            ∙ adds_nothing told (upstream_length g outlets s) (sym (ap through_length e) ∙ start_told s i),
        ap (λ (x : FlowLengths). x.down) e,
      );
      outside = flow_outside g outlets;
    }

  -- THE THEOREM: by edition 1, with and without dropping
  pub smith_laws : (dropping : Bool) → Smith g outlets o (tracing 1 dropping g outlets o)
  smith_laws dropping = told_laws (tracing 1 dropping g outlets o) (tracing 1 false g outlets o)
      (demand3 g a h outlets o listed v 1 dropping)
