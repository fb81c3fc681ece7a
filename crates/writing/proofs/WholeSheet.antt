-- A whole sheet put, and what writing leaves, by the judgement on the content.
-- Assumes nothing.
use mathlib.Core.Path.{◌≡◌, refl, sym, ap, ◌∙◌}
use mathlib.Core.List.{List}
use Prim.Native.Nat.{ℕ, zero, suc, ◌+◌, ◌*◌, ◌≤◌, ◌<◌}
use native.Mathlib.Nat.{mul-le-mul}
use native.Mathlib.Omega.{arith}
use lib.ListN.{length, get_or}
use lib.Seq.{sets}
use lib.Dec.{ltb}
use borrow.Author.Tests.{ltb-true, ne_eqb}
use Rattle.lists.proofs.Overlaid.{sets_overlaid}
use Rattle.answers.proofs.FirstFailed.{all_at}
use Rattle.std.specs.Prelude.{Result}
use Rattle.answers.specs.declared.Refusal.{Refusal}
use Rattle.spelling.specs.Content.{Content}
use Rattle.spelling.specs.Format.{header_record, end_record, row_records, outlet_records, spelling}
use Rattle.spelling.specs.Writing.{WrittenTold, written_told, write_number, write_answer, write_leaves, Writes}
use Rattle.spelling.proofs.Sizes.{spelling_length}
use Rattle.spelling.proofs.Writable.{Spellable, content_spellable, room}
use Rattle.writing.specs.Puts.{Puts}
use Rattle.writing.proofs.Puts.{puts_then}

-- what writing needs of an accepted content
pub record Puttable (c : Content) (file : List ℕ) : Type 0 where
  pub rows_small : c.rows ≤ 64
  pub cols_small : c.cols ≤ 64
  pub some_cols : 0 < c.cols
  pub has_codes : c.rows * c.cols ≤ length c.codes
  pub fits : 6 + c.rows * (4 + c.cols) + 6 * length c.outlets + 2 ≤ length file
  pub cells : (k : ℕ) → k < length c.outlets → get_or c.outlets k 0 < 65536

-- the longest sheet
pub spelling_few : {c : Content} → Spellable c → length (spelling c) ≤ 5896
spelling_few {c} w =
    let k : 4 + c.cols ≤ 68 = omega (arith, w.grid.cols_small) in
    let rows : c.rows * (4 + c.cols) ≤ 64 * 68 = mul-le-mul w.grid.rows_small k in
    omega (arith, rows, w.few, spelling_length c w.grid.has_codes)

module _ (c : Content) (file : List ℕ) where
  pub puttable : write_number c file ≡ 0 → Puttable c file
  puttable e =
      let w = content_spellable c file e in
      let g = w.grid in
      record {
        rows_small = g.rows_small;
        cols_small = g.cols_small;
        some_cols = g.some_cols;
        has_codes = g.has_codes;
        fits = omega (arith, room c file e, spelling_length c g.has_codes);
        cells = λ k h.
            let few : c.rows * c.cols ≤ 64 * 64 = mul-le-mul g.rows_small g.cols_small in
            let i = all_at (λ x. ltb x (c.rows * c.cols)) c.outlets w.inside k h in
            let o = ltb-true (get_or c.outlets k 0) (c.rows * c.cols) i in
            omega arith;
      }

  -- header, rows, outlets and end, each after the other
  pub sheet_put : {l₁ l₂ l₃ l₄ : List ℕ} {start tail end last : ℕ}
      → Puts (header_record c.rows c.cols) 0 file start l₁
      → Puts (row_records c.cols 0 c.rows c.codes) 6 l₁ tail l₂
      → Puts (outlet_records c.cols c.outlets) tail l₂ end l₃ → Puts end_record end l₃ last l₄
      → l₄ ≡ sets file 0 (spelling c)
  unfolding spelling
  sheet_put {l₁} {l₂} {start = start} {tail = tail} h r o e =
      let s : start ≡ 6 = h.lands in
      let rows : Puts (row_records c.cols 0 c.rows c.codes) start l₁ tail l₂ = rw s r in
      (puts_then h (puts_then rows (puts_then o e))).holds

  -- the number handed back is that of the checks
  answer_number : (write_answer c file).number ≡ write_number c file
  unfolding write_answer
  answer_number = go (write_number c file) refl
    where
      go : (n : ℕ) → write_number c file ≡ n → (write_answer c file).number ≡ write_number c file
      go zero e = rw e
      go (suc k) e = rw (e, ne_eqb (suc k) 0 (λ z. omega arith))

  module _ (r : Result ℕ Refusal) (e : written_told r ≡ write_answer c file) where
    number_is : (written_told r).number ≡ write_number c file
    number_is = ap (λ (x : WrittenTold). x.number) e ∙ answer_number

    -- REFUSED: nothing changes
    pub nothing_written : ((written_told r).number ≡ 0 → ⊥) → {new : List ℕ} → new ≡ file → Writes c file r new
    unfolding write_leaves
    nothing_written f same = record {
      answers = e;
      leaves = rw (ne_eqb (write_number c file) 0 (λ z. f (number_is ∙ z))) same;
    }

    -- ACCEPTED: the spelling is written
    module _ (z : (written_told r).number ≡ 0) where
      pub accepted_number : write_number c file ≡ 0
      accepted_number = sym number_is ∙ z

      pub sheet_written : {new : List ℕ} → new ≡ sets file 0 (spelling c) → Writes c file r new
      unfolding write_leaves
      sheet_written q = record {
        answers = e;
        leaves = q ∙ rw accepted_number (sets_overlaid file (spelling c) (room c file accepted_number));
      }
