-- Writing a sheet: its checks, what is handed back, and what is left in the lent bytes.
-- Assumes nothing.
use Rattle.std.specs.Prelude.{◌≡◌, cond, Result, Ok, Err, List, [], ◌∷◌, ◌++◌, ℕ, ◌*◌, length, take, eqb, ltb, leb}
use Rattle.ground.specs.Tables.{table1, is_code}
use Rattle.answers.specs.declared.Refusal.{Refusal}
use Rattle.answers.specs.Refusals.{refusal_number}
use Rattle.answers.specs.Checks.{Check, check, first_failed, all_pass, check23}
use Rattle.lists.specs.Slices.{overlaid}
use Rattle.spelling.specs.Content.{Content}
use Rattle.spelling.specs.Format.{spelling}
use Rattle.spelling.specs.Reading.{check2}

-- 2; 3, of the codes only; 5, of the first R × C codes; 8; 7, by cell number
abbrev pub content_checks : Content → List Check
content_checks c =
    check2 c.rows c.cols
    ∷ check 3 (leb (c.rows * c.cols) (length c.codes))
    ∷ check 5 (all_pass (is_code table1) (take (c.rows * c.cols) c.codes))
    ∷ check 8 (leb (length c.outlets) 256)
    ∷ check 7 (all_pass (λ o. ltb o (c.rows * c.cols)) c.outlets) ∷ []

-- what writing tells in numbers: that of the first check that fails, or 0, and the file's length, 0 on refusal
pub record WrittenTold : Type 0 where
  pub number : ℕ
  pub length : ℕ

abbrev pub written_told : Result ℕ Refusal → WrittenTold
written_told (Ok size) = record { number = 0; length = size }
written_told (Err refusal) = record { number = refusal_number refusal; length = 0 }

module _ (c : Content) (file : List ℕ) where
  -- WRITE: 2, 3, 5, 8, 7, 23
  unfoldable pub write_number : ℕ
  write_number = first_failed (content_checks c ++ (check23 (spelling c) file ∷ []))

  -- the file's length, 0 on refusal
  unfoldable pub write_answer : WrittenTold
  write_answer =
      cond (eqb write_number 0) (record { number = 0; length = length (spelling c) })
      (record { number = write_number; length = 0 })

  -- the file in the first bytes; on refusal nothing changes
  unfoldable pub write_leaves : List ℕ
  write_leaves = cond (eqb write_number 0) (overlaid (spelling c) file) file

  -- the file that is left: as many of the lent bytes as the answer counts
  abbrev pub written_file : List ℕ
  written_file = take write_answer.length write_leaves

pub record Writes (c : Content) (old : List ℕ) (r : Result ℕ Refusal) (new : List ℕ) : Type 0 where
  pub answers : written_told r ≡ write_answer c old
  pub leaves : new ≡ write_leaves c old
