-- The lines of starts, one more at a time.
-- Assumes nothing.
use mathlib.Core.Path.{◌≡◌, refl, sym, ap, ◌∙◌}
use mathlib.Core.List.{List, [], ◌∷◌, ◌++◌, append_assoc, append-nil}
use Prim.Native.Nat.{ℕ, ◌+◌, ◌/◌, ◌%◌, ◌<◌}
use native.Mathlib.Numerals.{add-one}
use lib.ListN.{length, take, get_or}
use lib.Seq.{take-suc}
use Rattle.cells.specs.Numbers.{RowAndColumn}
use Rattle.cells.proofs.Numbers.{is_row_lem, is_col}
use Rattle.lines.specs.Line.{path_line}
use Rattle.report.specs.Desk.{path_lines}

after : (cols : ℕ) (ss : List ℕ) (s : ℕ)
    → path_lines cols (ss ++ (s ∷ [])) ≡ path_lines cols ss ++ path_line (s / cols) (s % cols)
unfolding path_lines
after cols [] s = append-nil (path_line (s / cols) (s % cols))
after cols (x ∷ ss) s =
    ap (λ (l : List ℕ). path_line (x / cols) (x % cols) ++ l) (after cols ss s)
    ∙ sym (append_assoc (path_line (x / cols) (x % cols)) (path_lines cols ss) (path_line (s / cols) (s % cols)))

pub one_more : (cols : ℕ) (starts : List ℕ) (k : ℕ) {row col : ℕ} → k < length starts
    → RowAndColumn cols (get_or starts k 0) row col
    → path_lines cols (take k starts) ++ path_line row col ≡ path_lines cols (take (k + 1) starts)
one_more cols starts k h cell =
    rw (is_row_lem cell, is_col cell) (sym (after cols (take k starts) (get_or starts k 0)))
    ∙ sym (ap (λ (n : ℕ). path_lines cols (take n starts)) (add-one k) ∙ ap (path_lines cols) (take-suc starts k 0 h))

pub no_starts : (cols : ℕ) (starts : List ℕ) → path_lines cols (take 0 starts) ≡ []
unfolding path_lines
no_starts cols starts = refl
