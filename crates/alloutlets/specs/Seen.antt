-- What a caller sees of tracing all outlets in one call: what one call for each of them would have told.
-- Assumes nothing.
use Rattle.std.specs.Prelude.{◌≡◌, true, ◌⊎◌, ◌↔◌, List, map, ℕ, ◌+◌, ◌≤◌, ◌<◌, length, get_or, take}
use Rattle.lists.specs.Lists.{sum_of, how_many}
use Rattle.ground.specs.Grid.{cell_count, ground}
use Rattle.answers.specs.declared.Traced.{Traced}
use Rattle.alloutlets.specs.declared.TracedAll.{TracedAll}
use Rattle.answers.specs.Answers.{number_of, in_numbers}
use Rattle.answers.specs.Entries.{Catchment}
use Rattle.answers.specs.Tracings.{Call, Lent}
use Rattle.alloutlets.specs.AllOutlets.{LentAll}
use Rattle.alloutlets.specs.Part.{starts_part}
use Rattle.answers.specs.Seen.{LongestStarts, Way}

module _ (edition : ℕ) (c : Catchment) where
  -- a call for the outlet at a place alone, by the same edition, with dropping
  abbrev pub alone : ℕ → Call
  alone place = record { edition = edition; catchment = c; place = place; dropping = true }

  -- by either engine, in whatever it was lent, such a call came to the search and answered this
  pub record SearchedAlone (place : ℕ) (r : Traced) : Type 0 where
    pub left : Lent
    pub way : Way (alone place) r left
    pub searched : (number_of r.answer ≡ 0) ⊎ (number_of r.answer ≡ 21)

  -- the sums are those of one call for each outlet, whose answer is given by the outlet's cell number; and together they
  -- are no more than the grid has cells of ground
  pub record SumsSeen (r : TracedAll) : Type 0 where
    pub of_each : (one : ℕ → Traced)
        → ((i : ℕ) → i < length c.outlets → SearchedAlone i (one (get_or c.outlets i 0)))
        → (r.visited ≡ sum_of (map (λ o. (one o).visited) c.outlets))
        × (r.dropped ≡ sum_of (map (λ o. (one o).dropped) c.outlets))
    pub on_ground : r.visited + r.dropped ≤ how_many (ground c.grid) (cell_count c.grid)

  -- the part of the list at a place of the count list
  module _ (new : LentAll) (i : ℕ) where
    abbrev pub part_of : List ℕ
    part_of = starts_part new.starts new.counts i

    -- it is exactly the longest starts of that outlet, each once, in order, as many as its count; and it is the list that
    -- a call for the outlet alone leaves, where that call is accepted
    pub record PartSeen : Type 0 where
      pub longest : LongestStarts edition c (get_or c.outlets i 0) part_of
      pub counted : get_or new.counts i 0 ≡ length part_of
      pub as_alone : {r : Traced} {left : Lent} → Way (alone i) r left → number_of r.answer ≡ 0
          → (get_or new.counts i 0 ≡ (in_numbers r.answer).paths)
          × (part_of ≡ take (in_numbers r.answer).paths left.starts)

  -- 21 comes exactly where the longest paths of all outlets together are more than the list has places
  pub record RoomSeen (r : TracedAll) (new : LentAll) : Type 0 where
    -- the longest starts of each outlet, by its cell number
    pub starts : ℕ → List ℕ
    pub longest : (i : ℕ) → i < length c.outlets
        → LongestStarts edition c (get_or c.outlets i 0) (starts (get_or c.outlets i 0))
    pub on_21 : (r.number ≡ 21) ↔ (length new.starts < sum_of (map (λ o. length (starts o)) c.outlets))
    pub on_0 : (r.number ≡ 0) ↔ (sum_of (map (λ o. length (starts o)) c.outlets) ≤ length new.starts)

  -- what every call promises a buyer
  pub record AllSeen (r : TracedAll) (new : LentAll) : Type 0 where
    pub sums : (r.number ≡ 0) ⊎ (r.number ≡ 21) → SumsSeen r
    pub parts : r.number ≡ 0 → (i : ℕ) → i < length c.outlets → PartSeen new i
