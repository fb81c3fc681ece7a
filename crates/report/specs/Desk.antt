-- What the desk program prints, as bytes, for every file (01, Sheet and desk).
-- Assumes nothing.
use Rattle.std.specs.Prelude.{◌≡◌, Result, MatchResult, true, cond, List, [], ◌∷◌, ◌++◌, ℕ, zero, suc, ◌+◌, ◌*◌, ◌/◌, ◌%◌, length, take, get_or, eqb}
use Rattle.lists.specs.Slices.{zeros}
use Rattle.ground.specs.Grid.{Grid, grid_of}
use Rattle.search.specs.Tracing.{numbers_each}
use Rattle.answers.specs.declared.Answer.{Answer}
use Rattle.answers.specs.declared.Answer.TheVariants.{Found, NoPlace, Refused}
use Rattle.answers.specs.declared.Traced.{Traced}
use Rattle.answers.specs.Entries.{Catchment, accumulate_number, accumulate_leaves}
use Rattle.answers.specs.Answers.{traced_by}
use Rattle.answers.specs.Tracings.{Call, Lent, lent, chosen, chosen_tracing, stack_number}
use Rattle.answers.specs.Tracings.{leaves_subaccumulation, leaves_starts}
use Rattle.lines.specs.Line.{catchment_line, outlet_line, path_line, refused_line}
use Rattle.spelling.specs.Content.{Content}
use Rattle.spelling.specs.Reading.{read_sheet, left_content}

-- the first number that is a refusal's, and 0 where there is none
unfoldable pub first_number : List ℕ → ℕ
first_number [] = 0
first_number (n ∷ ns) = cond (eqb n 0) (first_number ns) n

-- a number as a result: 0 is accepted, and any other is what is refused with
abbrev pub Tells : {A : Type 0} → ℕ → Result A ℕ → Type 0
Tells n r = MatchResult r (λ x. n ≡ 0) (λ m. (m ≡ n) × (m ≡ 0 → ⊥))

-- ---- an outlet of a sheet: "traces by stack with dropping", in arrays that are "each started at zero"; 02, U7: by
-- edition 1

abbrev pub started_lent : Lent
started_lent = lent (zeros 4096) (zeros 4096)

abbrev pub started_work : List ℕ
started_work = zeros (numbers_each * 4096)

module _ (c : Catchment) (place : ℕ) where
  abbrev pub call_at : Call
  call_at = record { edition = 1; catchment = c; place = place; dropping = true }

  -- the number that tracing answers
  abbrev pub number_at : ℕ
  number_at = stack_number call_at started_lent started_work

  -- what tracing answers, and what it leaves
  unfoldable pub traced_at : Traced
  traced_at = traced_by number_at (chosen_tracing call_at)

  unfoldable pub left_at : Lent
  left_at = lent
      (leaves_subaccumulation call_at number_at started_lent.subaccumulation)
      (leaves_starts call_at number_at started_lent.starts)

-- "a line per start, row and column"
unfoldable pub path_lines : ℕ → List ℕ → List ℕ
path_lines cols [] = []
path_lines cols (s ∷ ss) = path_line (s / cols) (s % cols) ++ path_lines cols ss

-- the lines of an outlet, by its place and cell, and by what its tracing answers and leaves
module _ (cols place cell : ℕ) (t : Traced) (left : Lent) where
  unfoldable pub answer_lines : Answer → List ℕ
  answer_lines (Found straight diagonal paths) =
      outlet_line (record {
        place = place + 1;
        row = cell / cols;
        col = cell % cols;
        cells = get_or left.subaccumulation cell 0;
        straight = straight;
        diagonal = diagonal;
        paths = paths;
        visited = t.visited;
        dropped = t.dropped;
      })
      ++ path_lines cols (take paths left.starts)
  answer_lines (NoPlace paths) = []
  answer_lines (Refused number) = []

  abbrev pub traced_lines : List ℕ
  traced_lines = answer_lines t.answer

module _ (c : Catchment) where
  unfoldable pub outlet_lines : ℕ → List ℕ
  outlet_lines place = traced_lines c.grid.cols place (chosen (call_at c place)) (traced_at c place) (left_at c place)

  -- of the places from one on, so many
  unfoldable pub outlets_lines : ℕ → ℕ → List ℕ
  outlets_lines place zero = []
  outlets_lines place (suc n) = outlet_lines place ++ outlets_lines (place + 1) n

  unfoldable pub numbers_from : ℕ → ℕ → List ℕ
  numbers_from place zero = []
  numbers_from place (suc n) = number_at c place ∷ numbers_from (place + 1) n

  -- the first refusal of a tracing. The first place is asked for even where there is none: "a sheet without outlets
  -- gives 15"
  unfoldable pub tracing_number : ℕ
  tracing_number = first_number (number_at c 0 ∷ numbers_from 0 (length c.outlets))

-- ---- the whole output

module _ (s : Content) where
  abbrev pub sheet_grid : Grid
  sheet_grid = grid_of s.rows s.cols s.codes

  -- with the accumulation, in places that are started at zero
  abbrev pub sheet_catchment : Catchment
  sheet_catchment = record {
    grid = sheet_grid;
    accumulation = accumulate_leaves sheet_grid (zeros 4096);
    outlets = s.outlets;
  }

  -- accumulating, then tracing
  unfoldable pub sheet_number : ℕ
  sheet_number = first_number (accumulate_number sheet_grid (zeros 4096) ∷ tracing_number sheet_catchment ∷ [])

  -- of a sheet that was read: "A refusal prints only `refused` and its number"
  unfoldable pub sheet_text : ℕ → List ℕ
  sheet_text count =
      cond (eqb sheet_number 0)
      (catchment_line s.rows s.cols count ++ outlets_lines sheet_catchment 0 (length s.outlets))
      (refused_line sheet_number)

-- of a file: reading comes first
unfoldable pub desk_text : List ℕ → List ℕ
desk_text file =
    let sheet = read_sheet file (zeros 4096) (zeros 256) in
    cond (eqb sheet.number 0) (sheet_text (left_content file (zeros 4096) (zeros 256)) sheet.outlets)
    (refused_line sheet.number)

-- ---- what the desk program lends

-- for the bytes of a file
abbrev pub file_bytes : ℕ
file_bytes = 8192

-- for its text
abbrev pub text_bytes : ℕ
text_bytes = 81920
