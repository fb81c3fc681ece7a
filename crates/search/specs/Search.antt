-- The search through the forest above an outlet, with and without dropping.
-- Assumes nothing.
use Rattle.std.specs.Prelude.{Bool, true, false, not, ◌&&◌, ◌||◌, List, [], ◌∷◌, ◌++◌, ℕ, suc, ◌+◌, ◌-◌}
use Rattle.lengths.specs.Lengths.{Lengths, farthest}
use Rattle.lists.specs.Lists.{only}
use Rattle.ground.specs.Walk.{At}
use Rattle.ground.specs.Forest.{Forest, bare, tree, size, Which}

-- a headwater has nothing above it
abbrev pub headwater : {S : Type 0} → Which S
headwater c bare = true
headwater c (tree c' s above rest) = false

module _ {S : Type 0} (𝓛 : Lengths S) where
  open 𝓛 use {Len, start, ◌▹◌, top, shorter}

  -- is a length less than that of one of these cells?
  abbrev pub exceeded : List (At Len) → Len → Bool
  exceeded [] l = false
  exceeded (x ∷ xs) l = shorter l x.len || exceeded xs l

  -- of these cells those that none exceeds
  abbrev pub longest : List (At Len) → List (At Len)
  longest xs = only (λ x. not (exceeded xs x.len)) xs

  -- what the search has so far: the starts, all of the greatest length met, and how many cells it visited and dropped
  pub record State : Type 0 where
    pub starts : List (At Len)
    pub visited : ℕ
    pub dropped : ℕ

  abbrev pub fresh : State
  fresh = record { starts = []; visited = 0; dropped = 0 }

  -- a length is met: shorter than the greatest it is forgotten, longer it takes its place, equal it is a tie
  abbrev pub meet : List (At Len) → At Len → List (At Len)
  meet [] x = x ∷ []
  meet (g ∷ gs) x = elim (shorter x.len g.len) [
    | true ↦ g ∷ gs
    | false ↦ elim (shorter g.len x.len) [ true ↦ x ∷ [] | false ↦ (g ∷ gs) ++ (x ∷ []) ]
  ]

  abbrev pub meet_if : Bool → List (At Len) → At Len → List (At Len)
  meet_if true gs x = meet gs x
  meet_if false gs x = gs

  -- has a length been met, and is this one shorter than the greatest met so far?
  abbrev pub below_greatest : List (At Len) → Len → Bool
  below_greatest [] l = false
  below_greatest (g ∷ gs) l = shorter l g.len

  -- a limit on the walks into a neighbour: by the length d of the cell that it is entered from, the step, and its n cells
  abbrev pub Limit : Type 0
  Limit = Len → S → ℕ → Len

  -- how a search goes: with or without dropping, by which limit, and at which cells it meets a length
  pub record Rule : Type 0 where
    pub dropping : Bool
    pub limit : Limit
    pub meets : Which S

  -- 01's limit: n cells beyond length d reach d + n√2 at most, the step counted among the n
  abbrev pub first_limit : Limit
  first_limit d s n = farthest 𝓛 d n

  -- 02's tighter limit: d and the true step into the neighbour, straight or diagonal, plus (n − 1)√2
  abbrev pub tight_limit : Limit
  tight_limit d s n = farthest 𝓛 (d ▹ s) (n - 1)

  -- 01's rule, with lengths met at these cells; 01's own are the headwaters
  abbrev pub first_rule : Which S → Bool → Rule
  first_rule meets dropping = record { dropping = dropping; limit = first_limit; meets = meets }

  -- a rule by another limit, and else the same
  abbrev pub limited_by : Limit → Rule → Rule
  limited_by limit rule = record { dropping = rule.dropping; limit = limit; meets = rule.meets }

  -- the rule of every tracing: 01's, by 02's limit
  abbrev pub tracing_rule : Which S → Bool → Rule
  tracing_rule meets dropping = limited_by tight_limit (first_rule meets dropping)

  -- 01: a neighbour with its n cells is dropped if even its limit is shorter than the greatest length met; at equal
  -- length it is not, since it may tie
  abbrev pub drops : Rule → List (At Len) → Len → S → ℕ → Bool
  drops rule gs d s n = rule.dropping && below_greatest gs (rule.limit d s n)

  -- all n cells count as dropped
  abbrev pub drop_cells : State → ℕ → State
  drop_cells st n = record { starts = st.starts; visited = st.visited; dropped = st.dropped + n }

  -- a cell is visited, and meets its length if it is one of those that do
  abbrev pub visit : Rule → State → ℕ → Len → Forest S → State
  visit rule st c l above = record {
    starts = meet_if (rule.meets c above) st.starts (record { cell = c; len = l });
    visited = st.visited + 1;
    dropped = st.dropped;
  }

  -- 01: from a cell at length d, neighbour after neighbour, all above one before the next. The n of a neighbour counts
  -- its cell and all above it
  abbrev pub search_above : Rule → Len → State → Forest S → State
  search_above rule d st bare = st
  search_above rule d st (tree c s above rest) = search_above rule d
      (elim (drops rule st.starts d s (suc (size above))) [
        | true ↦ drop_cells st (suc (size above))
        | false ↦ search_above rule (d ▹ s) (visit rule st c (d ▹ s) above) above
      ]) rest

  -- 01: it starts at the outlet, and a cell is visited before its inflows
  abbrev pub search_from : Rule → ℕ → Forest S → State
  search_from rule o above = search_above rule start (visit rule fresh o start above) above
