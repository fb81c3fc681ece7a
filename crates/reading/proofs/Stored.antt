-- What is stored of a file, by the judgement on it.
-- Assumes nothing.
use mathlib.Core.Path.{◌≡◌, refl, sym, ap, ◌∙◌}
use mathlib.Core.List.{List}
use Prim.Native.Nat.{ℕ, zero, suc, ◌+◌, ◌*◌, ◌≤◌}
use native.Mathlib.Omega.{arith}
use lib.ListN.{length, drop, length-drop}
use lib.Seq.{sets}
use borrow.Author.Tests.{ne_eqb}
use Rattle.std.specs.Prelude.{Result}
use Rattle.answers.specs.declared.Refusal.{Refusal}
use Rattle.spelling.specs.declared.Sheet.{Sheet}
use Rattle.spelling.specs.Reading.{file_rows, file_cols, file_tail, file_codes, file_outlets}
use Rattle.spelling.specs.Reading.{outlet_count, codes_from, outlets_from, SheetTold, sheet_told}
use Rattle.spelling.specs.Reading.{read_number, read_answer, read_leaves_codes, read_leaves_outlets, Reads}
use Rattle.spelling.proofs.Accepted.{Accepted, accepted, outlets_long}
use Rattle.lists.proofs.Overlaid.{sets_overlaid}

-- rows, columns and outlets of an accepted file stand whole in it and have room; and stored, they are what reading
-- leaves
pub record Storable (file grid list : List ℕ) (r : Result Sheet Refusal) (rows cols count : ℕ) : Type 0 where
  pub cols_small : cols ≤ 64
  pub few_bytes : rows * (4 + cols) ≤ 4352
  pub rows_fit : 6 + rows * (4 + cols) ≤ length file
  pub has_grid : rows * cols ≤ length grid
  pub outlets_fit : 6 + rows * (4 + cols) + 6 * count ≤ length file
  pub has_list : count ≤ length list
  pub stored : (newGrid newList : List ℕ) → newGrid ≡ sets grid 0 (codes_from cols rows (drop 6 file))
      → newList ≡ sets list 0 (outlets_from cols count (drop (6 + rows * (4 + cols)) file))
      → Reads file grid list r newGrid newList

-- the number handed back is that of the checks
answer_number : (file : List ℕ) (grid list : ℕ) → (read_answer file grid list).number ≡ read_number file grid list
unfolding read_answer
answer_number file grid list = go (read_number file grid list) refl
  where
    go : (n : ℕ) → read_number file grid list ≡ n → (read_answer file grid list).number ≡ read_number file grid list
    go zero e = rw e
    go (suc k) e = rw (e, ne_eqb (suc k) 0 (λ z. omega arith))

module _ (file grid list : List ℕ) (r : Result Sheet Refusal)
    (e : sheet_told r ≡ read_answer file (length grid) (length list)) where
  number_is : (sheet_told r).number ≡ read_number file (length grid) (length list)
  number_is = ap (λ (x : SheetTold). x.number) e ∙ answer_number file (length grid) (length list)

  -- REFUSED: nothing changes
  pub nothing_stored : ((sheet_told r).number ≡ 0 → ⊥) → Reads file grid list r grid list
  unfolding read_leaves_codes read_leaves_outlets
  nothing_stored f =
      let n = ne_eqb (read_number file (length grid) (length list)) 0 (λ z. f (number_is ∙ z)) in
      record { answers = e; codes = rw n; outlets = rw n }

  -- ACCEPTED: the answer has the file's numbers, and what the file holds is stored
  module _ (z : (sheet_told r).number ≡ 0) where
    passes : read_number file (length grid) (length list) ≡ 0
    passes = sym number_is ∙ z

    a : Accepted file (length grid) (length list)
    a = accepted file (length grid) (length list) passes

    rows_are : (sheet_told r).rows ≡ file_rows file
    unfolding read_answer
    rows_are = ap (λ (x : SheetTold). x.rows) e ∙ rw passes

    cols_are : (sheet_told r).cols ≡ file_cols file
    unfolding read_answer
    cols_are = ap (λ (x : SheetTold). x.cols) e ∙ rw passes

    count_is : (sheet_told r).outlets ≡ outlet_count 257 (file_tail file)
    unfolding read_answer
    count_is =
        ap (λ (x : SheetTold). x.outlets) e
        ∙ rw passes (outlets_long (file_cols file) (outlet_count 257 (file_tail file)) (file_tail file))

    codes_left : sets grid 0 (file_codes file) ≡ read_leaves_codes file grid list
    unfolding read_leaves_codes
    codes_left = rw passes (sets_overlaid grid (file_codes file) (omega (arith, a.rows.long, a.has_grid)))

    outlets_left : sets list 0 (file_outlets file) ≡ read_leaves_outlets file grid list
    unfolding read_leaves_outlets
    outlets_left = rw passes (sets_overlaid list (file_outlets file) (omega (arith, a.few_outlets, a.has_list)))

    pub storable : (rows cols count : ℕ) → rows ≡ (sheet_told r).rows → cols ≡ (sheet_told r).cols
        → count ≡ (sheet_told r).outlets → Storable file grid list r rows cols count
    storable rows cols count m n o =
        let start : ℕ = 6 + file_rows file * (4 + file_cols file) in
        let rs : rows ≡ file_rows file = m ∙ rows_are in
        let cs : cols ≡ file_cols file = n ∙ cols_are in
        let os : count ≡ outlet_count 257 (file_tail file) = o ∙ count_is in
        record {
          cols_small = rw cs a.cols_small;
          few_bytes = rw (rs, cs) a.few_bytes;
          rows_fit = rw (rs, cs) (omega (arith, a.header, a.rows.fits, length-drop 6 file));
          has_grid = rw (rs, cs) a.has_grid;
          outlets_fit = rw (rs, cs, os) (omega (arith, a.tail.long, length-drop start file));
          has_list = rw os (omega (arith, a.tail.few, a.has_list));
          stored = λ newGrid newList p q.
              record { answers = e; codes = p ∙ rw (rs, cs) codes_left; outlets = q ∙ rw (rs, cs, os) outlets_left };
        }

-- places that hold what they held before the reading
pub reads_as : {file grid list codes outlets newGrid newList : List ℕ} {r : Result Sheet Refusal} → grid ≡ codes
    → list ≡ outlets → Reads file grid list r newGrid newList → Reads file codes outlets r newGrid newList
reads_as p q reads = rw (← p, ← q) reads
