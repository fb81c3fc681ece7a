-- What writing hands back, by the checks made so far.
-- Assumes nothing.
use mathlib.Core.Path.{◌≡◌, sym, ◌∙◌}
use mathlib.Core.Bool.{Bool, true, false, cond}
use mathlib.Core.List.{List, [], ◌∷◌}
use Prim.Native.Nat.{ℕ, ◌+◌, ◌*◌, ◌≤◌, ◌<◌}
use native.Mathlib.Nat.{mul-le-mul}
use native.Mathlib.Omega.{arith}
use lib.ListN.{length, get_or, take}
use lib.Dec.{ltb}
use borrow.Author.Tests.{ne_eqb, le-leb, lt-leb}
use Rattle.lists.specs.Lists.{all_below}
use Rattle.ground.specs.Tables.{table1, is_code}
use Rattle.answers.specs.Checks.{first_failed, all_pass, check23}
use Rattle.answers.proofs.FirstFailed.{handed_on}
use Rattle.spelling.specs.Content.{Content}
use Rattle.spelling.specs.Format.{spelling}
use Rattle.spelling.specs.Reading.{are_sheet_sides}
use Rattle.spelling.specs.Writing.{WrittenTold, content_checks, write_answer, write_number}
use Rattle.spelling.proofs.Records.{all_first}
use Rattle.spelling.proofs.Writable.{spellable, spellable_passes}
use Rattle.spelling.proofs.Sizes.{spelling_length}

-- are the codes that count among the ten, one by one?
abbrev pub tested : Content → Bool
tested c = all_below (λ x. is_code table1 (get_or c.codes x 0)) (c.rows * c.cols)

all_codes_lem : (c : Content) → c.rows * c.cols ≤ length c.codes → (b : Bool) → tested c ≡ b
    → all_pass (is_code table1) (take (c.rows * c.cols) c.codes) ≡ b
all_codes_lem c h b e = sym (all_first (is_code table1) c.codes (c.rows * c.cols) h) ∙ e

-- the bytes of the file
abbrev pub size : Content → ℕ
size c = 8 + c.rows * (4 + c.cols) + 6 * length c.outlets

-- it is small
pub record SmallSize (c : Content) : Type 0 where
  pub cols : c.cols ≤ 64
  pub rows : c.rows * (4 + c.cols) ≤ 4352
  pub outlets : length c.outlets ≤ 256

module _ (c : Content) where
  abbrev checked : ℕ
  checked = first_failed (content_checks c)

  -- ---- 2, 3, 5, 8, 7

  pub other_sides : are_sheet_sides c.rows c.cols ≡ false → 2 ≡ checked
  unfolding first_failed
  other_sides e = rw e

  module _ (s : are_sheet_sides c.rows c.cols ≡ true) where
    pub few_codes : length c.codes < c.rows * c.cols → 3 ≡ checked
    unfolding first_failed
    few_codes h = rw (s, lt-leb (c.rows * c.cols) (length c.codes) h)

    module _ (h : c.rows * c.cols ≤ length c.codes) where
      pub other_code : tested c ≡ false → 5 ≡ checked
      unfolding first_failed
      other_code e = rw (s, le-leb (c.rows * c.cols) (length c.codes) h, all_codes_lem c h false e)

      module _ (t : tested c ≡ true) where
        pub many_outlets : 256 < length c.outlets → 8 ≡ checked
        unfolding first_failed
        many_outlets k =
            rw (
              s,
              le-leb (c.rows * c.cols) (length c.codes) h,
              all_codes_lem c h true t,
              lt-leb (length c.outlets) 256 k,
            )

        pub by_cells : length c.outlets ≤ 256 → (b : Bool)
            → all_pass (λ o. ltb o (c.rows * c.cols)) c.outlets ≡ b → cond b 0 7 ≡ checked
        unfolding first_failed
        by_cells k b e =
            rw (
              s,
              le-leb (c.rows * c.cols) (length c.codes) h,
              all_codes_lem c h true t,
              le-leb (length c.outlets) 256 k,
              e,
            )

  -- ---- 23

  pub content_refused : (k : ℕ) → k ≡ checked → (k ≡ 0 → ⊥) → (file : List ℕ)
      → ◌≡◌ {A = WrittenTold} (record { number = k; length = 0 }) (write_answer c file)
  unfolding write_answer write_number
  content_refused k e f file =
      let n = handed_on (content_checks c) (check23 (spelling c) file ∷ []) e f in rw (← n, ne_eqb k 0 f)

  module _ (e : checked ≡ 0) where
    pub size_small : SmallSize c
    size_small =
        let w = spellable c [] e in
        let k : 4 + c.cols ≤ 68 = omega (arith, w.grid.cols_small) in
        record { cols = w.grid.cols_small; rows = mul-le-mul w.grid.rows_small k; outlets = w.few }

    size_is : length (spelling c) ≡ size c
    size_is = omega (arith, spelling_length c (spellable c [] e).grid.has_codes)

    pub no_room : (file : List ℕ) → length file < size c
        → ◌≡◌ {A = WrittenTold} (record { number = 23; length = 0 }) (write_answer c file)
    unfolding write_answer write_number first_failed check23
    no_room file h =
        rw (
          spellable_passes c (spellable c [] e) (check23 (spelling c) file ∷ []),
          lt-leb (length (spelling c)) (length file) (omega (arith, size_is)),
        )

    pub has_room : (file : List ℕ) → size c ≤ length file
        → ◌≡◌ {A = WrittenTold} (record { number = 0; length = size c }) (write_answer c file)
    unfolding write_answer write_number first_failed check23
    has_room file h =
        rw (
          spellable_passes c (spellable c [] e) (check23 (spelling c) file ∷ []),
          le-leb (length (spelling c)) (length file) (omega (arith, size_is)),
          size_is,
        )
