-- Runs of stores, in the codes and in the outlets.
-- Assumes nothing.
use mathlib.Core.Path.{◌≡◌, sym, ◌∙◌}
use mathlib.Core.List.{List}
use Prim.Native.Nat.{ℕ, zero, suc, ◌+◌, ◌-◌, ◌*◌, ◌≤◌, ◌<◌}
use native.Mathlib.Numerals.{add-one}
use native.Mathlib.Omega.{arith}
use lib.ListN.{length, take, drop, set}
use lib.Seq.{sets, drop-drop, take_all}
use Rattle.spelling.specs.Reading.{number_at, row_codes, codes_from, outlets_from}
use Rattle.lists.proofs.Overlaid.{sets_after, sets_overlaid, overlaid_short}
use Rattle.reading.proofs.Steps.{part_row, part_length}

-- ---- codes, of n rows from a place on

module _ (l file : List ℕ) (cols to at : ℕ) where
  pub codes_next : (n : ℕ) → 0 < n → at + (4 + cols) ≤ length file
      → sets l to (codes_from cols n (drop at file))
      ≡ sets (sets l to (take (at + 4 + cols - (at + 4)) (drop (at + 4) file))) (to + cols)
      (codes_from cols (n - 1) (drop (at + 4 + cols) file))
  unfolding codes_from
  codes_next zero h k = absurd (omega arith)
  codes_next (suc n) h k =
      let e : suc n - 1 ≡ n = omega arith in
      let here = row_codes cols (drop at file) in
      let size : length here ≡ cols = rw (part_row file cols at) at (part_length file cols at k) in
      let d : at + 4 + cols ≡ at + (4 + cols) = omega arith in
      sym (sets_after here (codes_from cols n (drop (4 + cols) (drop at file))) l to)
      ∙ rw (size, part_row file cols at, e, d, drop-drop (4 + cols) at file)

  pub codes_stored : (n : ℕ) → n ≡ 0 → l ≡ sets l to (codes_from cols n (drop at file))
  unfolding codes_from
  codes_stored n e = rw e

-- ---- n outlets from a place on

module _ (l file : List ℕ) (cols k at : ℕ) where
  pub outlets_next : (n cell : ℕ) → 0 < n → cell ≡ number_at 2 (drop at file) * cols + number_at 4 (drop at file)
      → sets l k (outlets_from cols n (drop at file))
      ≡ sets (set l k cell) (k + 1) (outlets_from cols (n - 1) (drop (at + 6) file))
  unfolding outlets_from
  outlets_next zero cell h e = absurd (omega arith)
  outlets_next (suc n) cell h e =
      let d : suc n - 1 ≡ n = omega arith in rw (d, e, add-one k, drop-drop 6 at file)

  pub outlets_stored : (n : ℕ) → n ≡ 0 → l ≡ sets l k (outlets_from cols n (drop at file))
  unfolding outlets_from
  outlets_stored n e = rw e

-- as many as there are places
pub whole_stored : (l new : List ℕ) → length l ≡ length new → sets l 0 new ≡ new
whole_stored l new e =
    sets_overlaid l new (omega arith) ∙ overlaid_short new l (omega arith) ∙ take_all (length l) new (omega arith)
