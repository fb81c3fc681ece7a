-- From one record to the next: what is left of the file gives the number of the whole.
-- Assumes nothing.
use mathlib.Core.Path.{◌≡◌, ◌∙◌}
use mathlib.Core.List.{List, ◌++◌}
use Prim.Native.Nat.{ℕ, zero, suc, ◌+◌, ◌-◌, ◌<◌}
use native.Mathlib.Omega.{arith}
use lib.ListN.{length, drop}
use lib.Seq.{drop-drop}
use borrow.Author.Tests.{eq-eqb}
use Rattle.answers.specs.Checks.{Check, first_failed}
use Rattle.spelling.specs.Reading.{row_checks, rows_checks, tail_checks, outlet_count}
use Rattle.reading.specs.declared.Cursor.{Cursor}
use Rattle.reading.specs.Steps.{Passes, Ends, OutletPasses, TailPasses}

-- a record that passes leads to the rest of the file
after : (file : List ℕ) (size at : ℕ) (next : Cursor) → next.at ≡ at + size
    → drop size (drop at file) ≡ drop next.at file
after file size at next e = drop-drop size at file ∙ rw e

-- ---- n rows to come, from `row` on

module _ (file : List ℕ) (rows cols row at : ℕ) where
  pub rows_on : (n : ℕ) → 0 < n → (next : Cursor) → Passes file (row_checks cols row (drop at file)) (4 + cols) at next
      → first_failed (rows_checks rows cols row n (drop at file))
      ≡ first_failed (rows_checks rows cols (row + 1) (n - 1) (drop next.at file))
  unfolding rows_checks
  rows_on zero h next p = absurd (omega arith)
  rows_on (suc n) h next p =
      let e : suc n - 1 ≡ n = omega arith in
      rw (e, ← after file (4 + cols) at next p.lands)
      (p.on (rows_checks rows cols (row + 1) n (drop (4 + cols) (drop at file))))

  pub rows_stop : (n k : ℕ) → 0 < n
      → ((later : List Check) → first_failed (row_checks cols row (drop at file) ++ later) ≡ k)
      → first_failed (rows_checks rows cols row n (drop at file)) ≡ k
  unfolding rows_checks
  rows_stop zero k h r = absurd (omega arith)
  rows_stop (suc n) k h r = r (rows_checks rows cols (row + 1) n (drop (4 + cols) (drop at file)))

  pub rows_done : (n : ℕ) → n ≡ 0
      → first_failed (rows_checks rows cols row n (drop at file)) ≡ first_failed (tail_checks rows cols 257 (drop at file))
  unfolding rows_checks
  rows_done n e = rw e

-- ---- n records to come after the rows

module _ (file : List ℕ) (rows cols at : ℕ) where
  pub record TailOn (n : ℕ) (next : Cursor) : Type 0 where
    pub same : first_failed (tail_checks rows cols n (drop at file))
        ≡ first_failed (tail_checks rows cols (n - 1) (drop next.at file))
    pub more : outlet_count n (drop at file) ≡ 1 + outlet_count (n - 1) (drop next.at file)

  pub tail_on : (n : ℕ) → 0 < n → (next : Cursor) → OutletPasses file rows cols at next → TailOn n next
  unfolding tail_checks outlet_count
  tail_on zero h next o = absurd (omega arith)
  tail_on (suc n) h next o =
      let e : suc n - 1 ≡ n = omega arith in
      let d = after file 6 at next o.passes.lands in
      record {
        same = rw (e, ← d, o.no_end) (o.passes.on (tail_checks rows cols n (drop 6 (drop at file))));
        more = rw (e, ← d, o.no_end) (omega arith);
      }

  pub tail_ends : (n : ℕ) → 0 < n → Ends file at → TailPasses file rows cols n at 0
  unfolding tail_checks outlet_count first_failed
  tail_ends zero h t = absurd (omega arith)
  tail_ends (suc n) h t =
      record { number = rw (t.end_is, eq-eqb (length (drop at file)) 2 t.over); counted = rw t.end_is }

  pub tail_stop : (n k : ℕ) → 0 < n → ((m : ℕ) → first_failed (tail_checks rows cols (suc m) (drop at file)) ≡ k)
      → first_failed (tail_checks rows cols n (drop at file)) ≡ k
  tail_stop zero k h r = absurd (omega arith)
  tail_stop (suc n) k h r = r n

  pub tail_full : (n : ℕ) → n ≡ 0 → first_failed (tail_checks rows cols n (drop at file)) ≡ 8
  unfolding tail_checks first_failed
  tail_full n e = rw e
