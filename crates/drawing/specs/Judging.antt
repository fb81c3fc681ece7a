-- What drawing answers, judged before anything is written.
-- Assumes nothing.
use Rattle.std.specs.Prelude.{◌≡◌, List, ℕ, length, Result}
use Rattle.std.specs.Result.{result_unwrap_or}
use Rattle.answers.specs.declared.Refusal.{Refusal}
use Rattle.answers.specs.Refusals.{number_told}
use Rattle.answers.specs.Drawing.{Drawing, draw_number, drawn_part}

-- how many of the lent places hold the path; 0 on refusal
abbrev pub count_told : Result ℕ Refusal → ℕ
count_told r = result_unwrap_or r 0

-- what is answered before anything is written: how many cells there are to write, or why none are
pub record Judged (q : Drawing) (lent : List ℕ) (r : Result ℕ Refusal) : Type 0 where
  pub answers : number_told r ≡ draw_number q lent
  pub counts : count_told r ≡ length (drawn_part q lent)
