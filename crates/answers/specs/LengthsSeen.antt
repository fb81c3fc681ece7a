-- WHAT A CALLER SEES OF FLOW LENGTHS: the four numbers of each cell in 02's words, alone and beside a tracing.
-- Assumes nothing.
use Rattle.std.specs.Prelude.{◌≡◌, Bool, true, ◌↔◌, ℕ, ◌<◌, get_or, take}
use Rattle.lengths.specs.declared.Length.{Length}
use Rattle.lengths.specs.Rule.{counts}
use Rattle.lists.specs.Lists.{In, member}
use Rattle.ground.specs.Grid.{cell_count}
use Rattle.ground.specs.Subwatershed.{InSubwatershed, HasLength, path_from}
use Rattle.ground.specs.FlowLengths.{FlowLengths, through_length, upstream_by}
use Rattle.search.specs.Smith.{InNone}
use Rattle.answers.specs.declared.Traced.{Traced}
use Rattle.answers.specs.Answers.{number_of, in_numbers}
use Rattle.answers.specs.Entries.{Catchment}
use Rattle.answers.specs.FlowLengths.{LengthGrids}
use Rattle.answers.specs.Tracings.{Call, Lent, chosen}
use Rattle.answers.specs.Seen.{Way}

-- the two lengths of a cell, as the four grids hold them
abbrev pub held_at : LengthGrids → ℕ → FlowLengths
held_at new x = record {
  down = counts (get_or new.down_straight x 0) (get_or new.down_diagonal x 0);
  up = counts (get_or new.up_straight x 0) (get_or new.up_diagonal x 0);
}

-- the length that a tracing tells
abbrev pub told_length : Traced → Length
told_length r = let n = in_numbers r.answer in counts n.straight n.diagonal

-- x lies on the path of a start that it lists
abbrev pub OnPathOf : Catchment → Traced → Lent → ℕ → Type 0
OnPathOf c r left x = (s : ℕ) × In s (take (in_numbers r.answer).paths left.starts)
    × In x (path_from c.grid c.outlets s)

-- a tracing by edition 1 of the outlet at a place of the same list
abbrev pub by_edition1 : Catchment → ℕ → Bool → Call
by_edition1 c place dropping = record { edition = 1; catchment = c; place = place; dropping = dropping }

module _ (c : Catchment) (new : LengthGrids) where
  -- what every accepted call promises a buyer
  pub record LengthsSeen : Type 0 where
    -- downstream, a cell of a subwatershed has the length of its walk to the outlet
    pub downstream : (o x : ℕ) (l : Length) → member o c.outlets ≡ true → HasLength c.grid c.outlets o x l
        → (held_at new x).down ≡ l
    -- upstream, 0 if it is a headwater, else the greatest over its inflows, outlets left out, of theirs plus the step
    pub upstream : (o x : ℕ) → member o c.outlets ≡ true → InSubwatershed c.grid c.outlets o x
        → (held_at new x).up ≡ upstream_by c.grid c.outlets (λ y. (held_at new y).up) x
    -- a cell of no subwatershed has 0 in all four grids
    pub outside : (x : ℕ) → x < cell_count c.grid → InNone c.grid c.outlets x
        → held_at new x ≡ record { down = counts 0 0; up = counts 0 0 }
    -- beside an accepted tracing of an outlet, by either engine, with or without dropping: the two lengths of a cell of
    -- its subwatershed add up to the length told exactly if the cell lies on a listed path
    pub adds_up : (place : ℕ) (dropping : Bool) {r : Traced} {left : Lent} → Way (by_edition1 c place dropping) r left
        → number_of r.answer ≡ 0 → (x : ℕ)
        → InSubwatershed c.grid c.outlets (chosen (by_edition1 c place dropping)) x
        → (through_length (held_at new x) ≡ told_length r) ↔ OnPathOf c r left x
