-- What the functions for C hand back in numbers. A place for results is written on every call: it holds values handed
-- back, which are 0 on refusal where 01 says so, and is no lent slice that a refusal leaves as it was.
-- Assumes nothing.
use Rattle.std.specs.Prelude.{◌≡◌, Result, Bool, not, List, [], ◌∷◌, ℕ, length, eqb}
use Rattle.answers.specs.declared.Refusal.{Refusal}
use Rattle.answers.specs.declared.Traced.{Traced}
use Rattle.alloutlets.specs.declared.TracedAll.{TracedAll}
use Rattle.answers.specs.Answers.{in_numbers}
use Rattle.answers.specs.Entries.{Catchment}
use Rattle.answers.specs.Tracings.{Call, Lent, TracesByRecursion, TracesByStack}
use Rattle.alloutlets.specs.AllOutlets.{LentAll, TracesAll}
use Rattle.alloutlets.specs.Part.{part_begin, part_count}
use Rattle.answers.specs.Drawing.{Drawing, Draws}
use Rattle.spelling.specs.declared.Sheet.{Sheet}
use Rattle.spelling.specs.Reading.{Reads, sheet_told}
use Rattle.spelling.specs.Content.{Content}
use Rattle.spelling.specs.Writing.{Writes, written_told}

-- C's truth: any number but 0
abbrev pub non_zero : ℕ → Bool
non_zero n = not (eqb n 0)

-- the answer of a tracing in numbers: its own, and straight, diagonal, paths, visited and dropped
pub record InNumbers (t : Traced) (number : ℕ) (results : List ℕ) : Type 0 where
  pub is_number : number ≡ (in_numbers t.answer).number
  pub is_results : let n = in_numbers t.answer in
      results ≡ n.straight ∷ n.diagonal ∷ n.paths ∷ t.visited ∷ t.dropped ∷ []

-- each function does what the entry does, and hands back in numbers what the entry answers

pub record RecursionInC (q : Call) (old : Lent) (number : ℕ) (results : List ℕ) (new : Lent) : Type 0 where
  pub answer : Traced
  pub traces : TracesByRecursion q old answer new
  pub numbers_in : InNumbers answer number results

pub record StackInC (q : Call) (old : Lent) (work : List ℕ) (number : ℕ) (results : List ℕ) (new : Lent)
    (space : List ℕ) : Type 0 where
  pub answer : Traced
  pub traces : TracesByStack q old work answer new space
  pub numbers_in : InNumbers answer number results

pub record AllInC (edition : ℕ) (c : Catchment) (old : LentAll) (number : ℕ) (sums : List ℕ) (new : LentAll) : Type 0 where
  pub answer : TracedAll
  pub traces : TracesAll edition c old answer new
  pub is_number : number ≡ answer.number
  pub is_sums : sums ≡ answer.visited ∷ answer.dropped ∷ []

-- where the part begins and how many starts it has, both 0 where it is empty; the list itself is only measured
pub record PartInC (starts counts : List ℕ) (choice : ℕ) (part : List ℕ) : Type 0 where
  pub is_part : part
      ≡ part_begin counts choice (length starts) ∷ part_count counts choice (length starts) ∷ []

pub record DrawingInC (q : Drawing) (old : List ℕ) (number : ℕ) (drawn new : List ℕ) : Type 0 where
  pub count : ℕ
  pub draws : Draws q old number count new
  pub is_drawn : drawn ≡ count ∷ []

pub record ReadingInC (file codes outlets : List ℕ) (number : ℕ) (shape newCodes newOutlets : List ℕ) : Type 0 where
  pub sheet : Result Sheet Refusal
  pub reads : Reads file codes outlets sheet newCodes newOutlets
  pub is_number : number ≡ (sheet_told sheet).number
  pub is_shape : let s = sheet_told sheet in shape ≡ s.rows ∷ s.cols ∷ s.outlets ∷ []

pub record WritingInC (c : Content) (old : List ℕ) (number : ℕ) (size new : List ℕ) : Type 0 where
  pub written : Result ℕ Refusal
  pub writes : Writes c old written new
  pub is_number : number ≡ (written_told written).number
  pub is_size : size ≡ (written_told written).length ∷ []
