-- The subwatershed of an outlet, the lengths of its cells' walks, and the order of starts.
-- Assumes nothing.
use Rattle.std.specs.Prelude.{◌≡◌, Bool, true, false, List, [], ◌∷◌, ◌++◌, map, reverse, ℕ, zero, suc, ◌<◌, eqb}
use Rattle.std.proofs.Math.Option.{Option, none, some}
use Rattle.lengths.specs.declared.Length.{Length}
use Rattle.lengths.specs.Rule.{is_shorter}
use Rattle.lengths.specs.Lengths.{Lengths}
use Rattle.lists.specs.Lists.{member}
use Rattle.ground.specs.Compass.{Dir, opposite, place_of, squares}
use Rattle.ground.specs.Grid.{Grid, Link, cell_count, next}
use Rattle.ground.specs.Walk.{At, after, strides}

module _ {S : Type 0} (step : ℕ → Option (Link S)) (outlet : ℕ → Bool) where
  -- 01, Subwatershed: on the walk from c the outlet o comes before all others. The start is part of the walk: the
  -- outlet's own walk meets it in no steps, and that of another outlet meets that one first
  pub record MeetsFirst (o c : ℕ) : Type 0 where
    pub steps : ℕ
    pub meets : after step steps c ≡ some o
    pub no_other : (j x : ℕ) → j < steps → after step j c ≡ some x → outlet x ≡ true → x ≡ o

  -- the steps of the walk from c to its first outlet, at most n
  unfoldable pub descent : ℕ → ℕ → List S
  descent zero c = []
  descent (suc n) c = elim (outlet c) [
    | true ↦ []
    | false ↦ elim (step c) [ none ↦ [] | some h ↦ h.step ∷ descent n h.cell ]
  ]

  -- the cells of that walk, the start and the outlet with it
  unfoldable pub walked : ℕ → ℕ → List ℕ
  walked zero c = c ∷ []
  walked (suc n) c = elim (outlet c) [
    | true ↦ c ∷ []
    | false ↦ elim (step c) [ none ↦ c ∷ [] | some h ↦ c ∷ walked n h.cell ]
  ]

-- a length one step longer
abbrev pub longer : {S : Type 0} (𝓛 : Lengths S) → S → Option (At 𝓛.Len) → Option (At 𝓛.Len)
longer 𝓛 s none = none
longer 𝓛 s (some a) = some (record { cell = a.cell; len = 𝓛.◌▹◌ a.len s })

module _ {S : Type 0} (𝓛 : Lengths S) (step : ℕ → Option (Link S)) (outlet : ℕ → Bool) where
  open 𝓛 use {Len, start}

  -- 01, Length: what the walk's state holds when it comes to its first outlet
  pub record Arrives (o : ℕ) (b : At Len) : Type 0 where
    pub steps : ℕ
    pub holds : strides 𝓛 step steps (record { cell = b.cell; len = start }) ≡ some (record { cell = o; len = b.len })
    pub not_outlet : (j x : ℕ) → j < steps → after step j b.cell ≡ some x → outlet x ≡ false

  -- the same worked out: the first outlet on the walk from c, within n steps, and the length to it
  abbrev pub first_outlet : ℕ → ℕ → Option (At Len)
  first_outlet zero c = elim (outlet c) [ true ↦ some (record { cell = c; len = start }) | false ↦ none ]
  first_outlet (suc n) c = elim (outlet c) [
    | true ↦ some (record { cell = c; len = start })
    | false ↦ elim (step c) [ none ↦ none | some h ↦ longer 𝓛 h.step (first_outlet n h.cell) ]
  ]

  -- is that outlet o?
  unfoldable pub belongs : ℕ → ℕ → ℕ → Bool
  belongs n o c = elim (first_outlet n c) [ none ↦ false | some a ↦ eqb a.cell o ]

-- a walk read upward, from its outlet: at each cell, which neighbour the next one up is
unfoldable pub route : (ℕ → Option (Link Dir)) → (ℕ → Bool) → ℕ → ℕ → List Dir
route step outlet n c = reverse (map opposite (descent step outlet n c))

-- two routes part, the first by the earlier neighbour
pub record Parts (xs ys : List Dir) : Type 0 where
  pub shared : List Dir
  pub left : Dir
  pub right : Dir
  pub lefts : List Dir
  pub rights : List Dir
  pub is_left : xs ≡ shared ++ (left ∷ lefts)
  pub is_right : ys ≡ shared ++ (right ∷ rights)
  pub earlier : place_of left < place_of right

-- over a grid and its list of outlets
module _ (g : Grid) (outlets : List ℕ) where
  abbrev pub is_outlet : ℕ → Bool
  is_outlet c = member c outlets

  -- c is a cell of the subwatershed of o
  abbrev pub InSubwatershed : ℕ → ℕ → Type 0
  InSubwatershed o c = MeetsFirst (next g) is_outlet o c

  -- the same as a test: check 22's question
  unfoldable pub in_subwatershed : ℕ → ℕ → Bool
  in_subwatershed o c = belongs squares (next g) is_outlet (cell_count g) o c

  -- the walk from c to its outlet o has this length
  abbrev pub HasLength : ℕ → ℕ → Length → Type 0
  HasLength o c l = Arrives squares (next g) is_outlet o (record { cell = c; len = l })

  -- 01's order of starts: at the cell where the two walks come together, c comes by the earlier neighbour
  abbrev pub Before : ℕ → ℕ → Type 0
  Before c y = Parts (route (next g) is_outlet (cell_count g) c) (route (next g) is_outlet (cell_count g) y)

  -- 01, Longest: a cell of the subwatershed whose walk no other's exceeds. Of the cells that may start, which are all
  pub record Longest (may : ℕ → Bool) (o c : ℕ) : Type 0 where
    pub inside : InSubwatershed o c
    pub starts : may c ≡ true
    pub len : Length
    pub has : HasLength o c len
    pub none_longer : (y : ℕ) (l : Length) → InSubwatershed o y → may y ≡ true → HasLength o y l
        → is_shorter len l ≡ false

  -- the path that drawing draws
  abbrev pub path_from : ℕ → List ℕ
  path_from c = walked (next g) is_outlet (cell_count g) c
