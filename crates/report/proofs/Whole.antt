-- The text of a sheet and of a file, by which number comes first.
-- Assumes nothing.
use mathlib.Core.Path.{◌≡◌, refl, sym, ap, ◌∙◌}
use mathlib.Core.Bool.{Bool, true, false}
use Rattle.std.specs.Prelude.{Ok, Err}
use mathlib.Core.List.{List, [], ◌∷◌, ◌++◌}
use Prim.Native.Nat.{ℕ, ◌<◌}
use native.Mathlib.Omega.{arith}
use lib.ListN.{length, take}
use lib.Dec.{eqb}
use borrow.Author.Tests.{ne_eqb, eqb-true}
use Rattle.lists.specs.Slices.{zeros}
use Rattle.answers.specs.Entries.{catchment, Accumulates}
use Rattle.lines.specs.Appending.{Appends}
use Rattle.lines.proofs.Appending.{appends_both, appends_as}
use Rattle.lines.specs.Line.{catchment_line, refused_line}
use Rattle.answers.specs.declared.Refusal.{Refusal}
use Rattle.answers.specs.Refusals.{refusal_number}
use Rattle.answers.proofs.Refusals.{has_number}
use Rattle.spelling.specs.declared.Sheet.{Sheet}
use Rattle.spelling.specs.Content.{Content, content}
use Rattle.spelling.specs.Reading.{SheetTold, read_number, read_answer, read_sheet, Reads}
use Rattle.spelling.proofs.Accepted.{accepted}
use Rattle.report.specs.Desk.{first_number, tracing_number, sheet_grid, sheet_catchment, sheet_number, sheet_text}
use Rattle.report.specs.Desk.{outlets_lines, desk_text}
use Rattle.report.proofs.Refusals.{refuses, passes}

-- ---- a sheet

refused : (s : Content) (count : ℕ) {n : ℕ} → n ≡ sheet_number s → (n ≡ 0 → ⊥) → refused_line n ≡ sheet_text s count
unfolding sheet_text
refused s count {n} e z = rw (sym e, ne_eqb n 0 z)

-- what accumulating answers and leaves
module _ (s : Content) {ring : ℕ} {accumulation : List ℕ}
    (accumulates : Accumulates (sheet_grid s) (zeros 4096) ring accumulation) where
  is_catchment : catchment s.rows s.cols s.codes accumulation s.outlets ≡ sheet_catchment s
  is_catchment = rw accumulates.leaves

  module _ (count : ℕ) where
    pub ring_refuses : (ring ≡ 0 → ⊥) → refused_line ring ≡ sheet_text s count
    unfolding sheet_number
    ring_refuses z = refused s count (refuses (tracing_number (sheet_catchment s) ∷ []) z
        ∙ ap (λ (m : ℕ). first_number (m ∷ tracing_number (sheet_catchment s) ∷ [])) accumulates.answers) z

    module _ (free : ring ≡ 0) where
      pub tracing_refuses : {n : ℕ} → n ≡ tracing_number (catchment s.rows s.cols s.codes accumulation s.outlets)
          → (n ≡ 0 → ⊥) → refused_line n ≡ sheet_text s count
      unfolding sheet_number
      tracing_refuses {n} is-n z = refused s count (refuses [] z
          ∙ ap (λ (m : ℕ). first_number (m ∷ [])) (is-n ∙ ap tracing_number is_catchment)
          ∙ passes (tracing_number (sheet_catchment s) ∷ []) (sym accumulates.answers ∙ free)) z

      module _ (all : tracing_number (catchment s.rows s.cols s.codes accumulation s.outlets) ≡ 0) where
        all_traced : catchment_line s.rows s.cols count
            ++ outlets_lines (catchment s.rows s.cols s.codes accumulation s.outlets) 0 (length s.outlets)
            ≡ sheet_text s count
        unfolding sheet_text sheet_number first_number
        all_traced = rw (sym accumulates.answers ∙ free, sym (ap tracing_number is_catchment) ∙ all, accumulates.leaves)

        pub all_put : {at r : ℕ} {old mid new : List ℕ}
            → Appends (catchment_line s.rows s.cols count) 0 old at mid
            → Appends (outlets_lines (catchment s.rows s.cols s.codes accumulation s.outlets)
            0 (length s.outlets)) at mid r new
            → Appends (sheet_text s count) 0 old r new
        all_put first others = appends_as all_traced (appends_both first others)

-- ---- a file

-- the sheet that is read has the number of the first check that fails
answer_number : (file : List ℕ) (grid list n : ℕ) → read_number file grid list ≡ n
    → (read_answer file grid list).number ≡ n
unfolding read_answer
answer_number file grid list n e = go (eqb n 0) refl
  where
    go : (b : Bool) → eqb n 0 ≡ b → (read_answer file grid list).number ≡ n
    go true p = rw (e, p) (sym (eqb-true n 0 p))
    go false p = rw (e, p)

pub accepted_number : (file : List ℕ) (grid list : ℕ) → (read_answer file grid list).number ≡ 0
    → read_number file grid list ≡ 0
accepted_number file grid list good = sym (answer_number file grid list (read_number file grid list) refl) ∙ good

answer_cols : (file : List ℕ) (grid list : ℕ) → (read_answer file grid list).number ≡ 0
    → 0 < (read_answer file grid list).cols
unfolding read_answer
answer_cols file grid list good =
    let e = accepted_number file grid list good in
    rw e (omega (arith, (accepted file grid list e).some_cols))

pub file_refused : (file : List ℕ) {refusal : Refusal} {codes list : List ℕ}
    → Reads file (zeros 4096) (zeros 256) (Err refusal) codes list
    → refused_line (refusal_number refusal) ≡ desk_text file
unfolding desk_text
file_refused file {refusal} r = rw (sym r.answers, ne_eqb (refusal_number refusal) 0 (has_number refusal))

module _ (file : List ℕ) {s : Sheet} {codes list : List ℕ}
    (r : Reads file (zeros 4096) (zeros 256) (Ok s) codes list) where
  number_0 : (read_sheet file (zeros 4096) (zeros 256)).number ≡ 0
  number_0 = sym (ap (λ (x : SheetTold). x.number) r.answers)

  pub some_cols : 0 < s.cols
  some_cols = rw (ap (λ (x : SheetTold). x.cols) r.answers) (answer_cols file 4096 256 number_0)

  pub file_read : {outlets : List ℕ} → outlets ≡ take s.outlets list
      → sheet_text (content s.rows s.cols codes outlets) s.outlets ≡ desk_text file
  unfolding desk_text
  file_read taken = rw (taken, sym r.answers, r.codes, r.outlets)
