-- The lines of one outlet after another.
-- Assumes nothing.
use mathlib.Core.Path.{◌≡◌, refl, sym, ap, ◌∙◌}
use mathlib.Core.List.{List, [], ◌++◌, append_assoc, append-nil}
use Prim.Native.Nat.{ℕ, zero, suc, ◌+◌}
use native.Mathlib.Omega.{arith}
use lib.ListN.{take, get_or}
use Rattle.cells.specs.Numbers.{RowAndColumn}
use Rattle.cells.proofs.Numbers.{is_row_lem, is_col}
use Rattle.answers.specs.declared.Answer.{Answer}
use Rattle.answers.specs.declared.Answer.TheVariants.{Found, NoPlace, Refused}
use Rattle.answers.specs.declared.Traced.{Traced}
use Rattle.answers.specs.Entries.{Catchment}
use Rattle.answers.specs.Tracings.{Lent, lent, Traces}
use Rattle.lines.specs.Line.{outlet_line}
use Rattle.lines.specs.Appending.{Appends}
use Rattle.lines.proofs.Appending.{appends_both, appends_as}
use Rattle.report.specs.Desk.{started_lent, call_at, number_at, traced_at, left_at, path_lines}
use Rattle.report.specs.Desk.{answer_lines, traced_lines, outlet_lines, outlets_lines}

-- ---- one outlet

-- its lines, where its tracing found paths
pub found_lines : (cols place cell : ℕ) (t : Traced) (left : Lent) {straight diagonal paths row col cells : ℕ}
    {starts : List ℕ} → t.answer ≡ Found straight diagonal paths → RowAndColumn cols cell row col
    → cells ≡ get_or left.subaccumulation cell 0 → starts ≡ take paths left.starts
    → outlet_line (record {
      place = place + 1;
      row = row;
      col = col;
      cells = cells;
      straight = straight;
      diagonal = diagonal;
      paths = paths;
      visited = t.visited;
      dropped = t.dropped;
    }) ++ path_lines cols starts ≡ traced_lines cols place cell t left
unfolding answer_lines
found_lines cols place cell t left is_found is_cell is-cells is-starts =
    rw (is_found, is_row_lem is_cell, is_col is_cell, is-cells, is-starts)

-- and where it did not
pub other_lines : (cols place cell : ℕ) (t : Traced) (left : Lent)
    → ((straight diagonal paths : ℕ) → t.answer ≡ Found straight diagonal paths → ⊥)
    → [] ≡ traced_lines cols place cell t left
unfolding answer_lines
other_lines cols place cell t left f = go t.answer refl
  where
    go : (a : Answer) → t.answer ≡ a → [] ≡ answer_lines cols place cell t left a
    go (Found straight diagonal paths) e = absurd (f straight diagonal paths e)
    go (NoPlace paths) e = refl
    go (Refused number) e = refl

-- what tracing answers and leaves makes the outlet's lines
pub outlet_is : (c : Catchment) (place : ℕ) {cell : ℕ} {t : Traced} {subaccumulation starts : List ℕ}
    → cell ≡ get_or c.outlets place 0
    → Traces (call_at c place) started_lent (number_at c place) t (lent subaccumulation starts)
    → traced_lines c.grid.cols place cell t (lent subaccumulation starts) ≡ outlet_lines c place
unfolding outlet_lines traced_at left_at
outlet_is c place is_cell traces = rw (traces.answers, traces.fills, traces.lists, is_cell)

-- ---- one after another

module _ (c : Catchment) where
  grown : (place n : ℕ) → outlets_lines c place n ++ outlet_lines c (place + n) ≡ outlets_lines c place (suc n)
  unfolding outlets_lines
  grown place zero =
      let e : place + 0 ≡ place = omega arith in
      ap (outlet_lines c) e ∙ sym (append-nil (outlet_lines c place))
  grown place (suc n) =
      let e : place + suc n ≡ place + 1 + n = omega arith in
      append_assoc (outlet_lines c place) (outlets_lines c (place + 1) n) (outlet_lines c (place + suc n))
      ∙ ap (λ (l : List ℕ). outlet_lines c place ++ l)
      (ap (λ (m : ℕ). outlets_lines c (place + 1) n ++ outlet_lines c m) e ∙ grown (place + 1) n)

  one_more : (n : ℕ) → outlets_lines c 0 n ++ outlet_lines c n ≡ outlets_lines c 0 (n + 1)
  one_more n =
      let e : n + 1 ≡ suc n = omega arith in
      let z : 0 + n ≡ n = omega arith in
      sym (ap (λ (m : ℕ). outlets_lines c 0 n ++ outlet_lines c m) z) ∙ grown 0 n ∙ sym (ap (outlets_lines c 0) e)

  pub next_outlet : (n : ℕ) {at m r : ℕ} {old mid new : List ℕ} → Appends (outlets_lines c 0 n) at old m mid
      → Appends (outlet_lines c n) m mid r new → Appends (outlets_lines c 0 (n + 1)) at old r new
  next_outlet n before this = appends_as (one_more n) (appends_both before this)

  pub no_outlets : outlets_lines c 0 0 ≡ []
  unfolding outlets_lines
  no_outlets = refl
