-- What writing's checks ask.
-- Assumes nothing.
use mathlib.Core.Path.{◌≡◌, sym, ◌∙◌}
use mathlib.Core.Bool.{true}
use mathlib.Core.List.{List, [], ◌∷◌, ◌++◌}
use Prim.Native.Nat.{ℕ, ◌*◌, ◌≤◌}
use lib.ListN.{length, take}
use lib.Dec.{ltb, leb}
use borrow.Author.Tests.{leb-true, le-leb}
use Rattle.ground.specs.Tables.{table1, is_code}
use Rattle.answers.specs.Checks.{Check, first_failed, all_pass, check23}
use Rattle.spelling.specs.Content.{Content}
use Rattle.spelling.specs.Format.{spelling}
use Rattle.spelling.specs.Reading.{are_sheet_sides}
use Rattle.spelling.specs.Writing.{content_checks, write_number}
use Rattle.spelling.proofs.Records.{passes, is_side_lem, sized}
use Rattle.spelling.proofs.Spelled.{SheetGrid}

-- a content that has a spelling
pub record Spellable (c : Content) : Type 0 where
  pub grid : SheetGrid c.rows c.cols c.codes
  pub few : length c.outlets ≤ 256
  pub inside : all_pass (λ o. ltb o (c.rows * c.cols)) c.outlets ≡ true

module _ (c : Content) where
  -- what the checks before 23 ask, whatever follows them
  pub spellable : (later : List Check) → first_failed (content_checks c ++ later) ≡ 0 → Spellable c
  unfolding first_failed
  spellable later e =
      let p = passes (are_sheet_sides c.rows c.cols) _ 1 e in
      let q = passes (leb (c.rows * c.cols) (length c.codes)) _ 2 p.1 in
      let r = passes (all_pass (is_code table1) (take (c.rows * c.cols) c.codes)) _ 4 q.1 in
      let s = passes (leb (length c.outlets) 256) _ 7 r.1 in
      let t = passes (all_pass (λ o. ltb o (c.rows * c.cols)) c.outlets) _ 6 s.1 in
      let z = sized c.rows c.cols p.0 in
      record {
        grid = record {
          some_rows = z.some_rows;
          rows_small = z.rows_small;
          some_cols = z.some_cols;
          cols_small = z.cols_small;
          has_codes = leb-true (c.rows * c.cols) (length c.codes) q.0;
          are_codes = r.0;
        };
        few = leb-true (length c.outlets) 256 s.0;
        inside = t.0;
      }

  pub spellable_passes : Spellable c → (later : List Check)
      → first_failed (content_checks c ++ later) ≡ first_failed later
  unfolding first_failed
  spellable_passes w later =
      let g = w.grid in
      rw (
        is_side_lem c.rows g.some_rows g.rows_small,
        is_side_lem c.cols g.some_cols g.cols_small,
        le-leb (c.rows * c.cols) (length c.codes) g.has_codes,
        g.are_codes,
        le-leb (length c.outlets) 256 w.few,
        w.inside,
      )

  module _ (bytes : List ℕ) where
    -- and 23
    pub room : write_number c bytes ≡ 0 → length (spelling c) ≤ length bytes
    unfolding write_number first_failed check23
    room e =
        let later = check23 (spelling c) bytes ∷ [] in
        leb-true (length (spelling c)) (length bytes)
        (passes _ _ 22 (sym (spellable_passes (spellable later e) later) ∙ e)).0

    pub write_accepted : Spellable c → length (spelling c) ≤ length bytes → write_number c bytes ≡ 0
    unfolding write_number first_failed check23
    write_accepted w h =
        spellable_passes w (check23 (spelling c) bytes ∷ []) ∙ rw (le-leb (length (spelling c)) (length bytes) h)

    pub content_spellable : write_number c bytes ≡ 0 → Spellable c
    unfolding write_number
    content_spellable e = spellable (check23 (spelling c) bytes ∷ []) e
