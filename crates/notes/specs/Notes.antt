-- The editions by their numbers; and the words of the lent subaccumulation grid while a tracing is at work: a cell's
-- subaccumulation, at most 2²⁴, and above it three notes, that the cell is an outlet (2²⁹), enclosed by its subwatershed
-- (2³⁰), inside the one at hand (2³¹). An enclosed cell is one of a subwatershed and not on its divide.
-- Assumes nothing.
use Rattle.std.specs.Prelude.{◌≡◌, Bool, true, false, cond, Result, MatchResult, List, ℕ, ◌+◌, ◌*◌, ◌/◌, ◌%◌, ◌≤◌, ◌<◌}
use Rattle.std.specs.Prelude.{◌^◌, length, get_or, eqb, ltb}
use Rattle.search.specs.Editions.{is_edition}
use Rattle.answers.specs.declared.Refusal.{Refusal}
use Rattle.answers.specs.Refusals.{refusal_number}
use Rattle.notes.specs.declared.Edition.{Edition}
use Rattle.notes.specs.declared.Edition.TheVariants.{First, Second}
use Rattle.lists.specs.Lists.{member}
use Rattle.ground.specs.Grid.{Grid, cell_count}
use Rattle.ground.specs.Accumulation.{subaccumulation}

-- the number of an edition
abbrev pub edition_number : Edition → ℕ
edition_number First = 1
edition_number Second = 2

-- the edition of a number, and where there is none the refusal by 25
abbrev pub OfNumber : ℕ → Result Edition Refusal → Type 0
OfNumber number r = MatchResult r (λ edition. (is_edition number ≡ true) × (edition_number edition ≡ number))
    (λ refusal. (is_edition number ≡ false) × (refusal_number refusal ≡ 25))

-- the subaccumulation that a word holds
abbrev pub cells_held : ℕ → ℕ
cells_held word = word % 2 ^ 29

-- is a length met at a cell with this word: by edition 1, without notes, at a headwater, by edition 2 where the cell is
-- not enclosed
abbrev pub met_by : ℕ → ℕ → Bool
met_by edition word = ltb word (cond (eqb edition 2) (2 ^ 30) 2)

-- a word with one note more, or without one
abbrev pub with_outlet : ℕ → ℕ
with_outlet word = word % 2 ^ 29 + 2 ^ 29

abbrev pub with_enclosed : ℕ → ℕ
with_enclosed word = word % 2 ^ 30 + 2 ^ 30 + word / 2 ^ 31 * 2 ^ 31

abbrev pub with_inside : ℕ → ℕ
with_inside word = word % 2 ^ 31 + 2 ^ 31

abbrev pub without_inside : ℕ → ℕ
without_inside word = word % 2 ^ 31

-- a grid whose words hold the subaccumulation, and in which the outlets are noted
pub record Noted (g : Grid) (outlets grid : List ℕ) : Type 0 where
  pub has_room : cell_count g ≤ length grid
  pub cells : (x : ℕ) → x < cell_count g → cells_held (get_or grid x 0) ≡ subaccumulation g outlets x
  pub outlet_notes : (x : ℕ) → x < cell_count g → get_or grid x 0 / 2 ^ 29 % 2 ≡ cond (member x outlets) 1 0
