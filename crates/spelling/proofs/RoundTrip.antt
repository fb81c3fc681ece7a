-- Reading and writing are inverse to each other.
-- Assumes nothing.
use mathlib.Core.Path.{◌≡◌, refl, sym, ap, ◌∙◌, subst}
use mathlib.Core.List.{List}
use Prim.Native.Nat.{ℕ, ◌*◌, ◌≤◌}
use native.Mathlib.Omega.{arith}
use lib.ListN.{length, take, drop}
use lib.Seq.{take_at}
use Rattle.lists.specs.Slices.{overlaid}
use Rattle.lists.proofs.Overlaid.{overlaid_front, overlaid_length}
use Rattle.spelling.specs.Content.{Content, content, lent_content}
use Rattle.spelling.specs.Format.{spelling}
use Rattle.spelling.specs.Reading.{file_rows, file_cols, file_codes, file_outlets, file_content}
use Rattle.spelling.specs.Reading.{read_number, read_answer, read_leaves_codes, read_leaves_outlets}
use Rattle.spelling.specs.Reading.{left_content, read_content}
use Rattle.spelling.specs.Writing.{write_number, write_answer, write_leaves, written_file}
use Rattle.spelling.proofs.Accepted.{Accepted, accepted}
use Rattle.spelling.proofs.Spelled.{spelling_accepted, content_same}
use Rattle.spelling.proofs.Sizes.{spelling_first}
use Rattle.spelling.proofs.Writable.{Spellable, content_spellable, room, write_accepted}

-- the front of what is left
front : (new old : List ℕ) (n : ℕ) → length new ≤ length old → length new ≡ n → take n (overlaid new old) ≡ new
front new old n h e = rw (overlaid_front new old h) (take_at new (drop (length new) old) n e)

-- ---- what writing leaves

pub written_is : (c : Content) (bytes : List ℕ) → write_number c bytes ≡ 0 → written_file c bytes ≡ spelling c
unfolding write_answer write_leaves
written_is c bytes e = rw e (front (spelling c) bytes _ (room c bytes e) refl)

-- ---- what reading leaves

-- of an accepted file: as it is lent to writing again
abbrev left : List ℕ → List ℕ → List ℕ → Content
left file grid list = content (file_rows file) (file_cols file) (read_leaves_codes file grid list) (file_outlets file)

module _ (file grid list : List ℕ) (e : read_number file (length grid) (length list) ≡ 0) where
  abbrev a : Accepted file (length grid) (length list)
  a = accepted file (length grid) (length list) e

  read_codes : take (file_rows file * file_cols file) (read_leaves_codes file grid list) ≡ file_codes file
  unfolding read_leaves_codes
  read_codes = rw e (front (file_codes file) grid _ (omega (arith, a.has_grid, a.rows.long)) a.rows.long)

  left_is : left_content file grid list ≡ left file grid list
  unfolding read_answer read_leaves_outlets
  left_is = rw e (rw (front (file_outlets file) list _ (omega (arith, a.few_outlets, a.has_list)) refl))

  -- reading leaves what the file holds
  pub read_is : read_content file grid list ≡ file_content file
  read_is = ap lent_content left_is ∙ rw read_codes

-- ---- READ BACK: the file that writing leaves is accepted, and read as the content that was lent

module _ (c : Content) (bytes grid list : List ℕ)
    (e : write_number c bytes ≡ 0) (h : c.rows * c.cols ≤ length grid) (k : 256 ≤ length list) where
  pub read_back_accepted : read_number (written_file c bytes) (length grid) (length list) ≡ 0
  read_back_accepted =
      let w = content_spellable c bytes e in
      rw (written_is c bytes e)
      (spelling_accepted c w.grid w.inside w.few (length grid) (length list) h k)

  pub read_back : read_content (written_file c bytes) grid list ≡ lent_content c
  read_back =
      let w = content_spellable c bytes e in
      read_is (written_file c bytes) grid list read_back_accepted
      ∙ rw (written_is c bytes e) (content_same c w.grid w.inside w.few)

-- ---- WRITTEN AGAIN: what reading leaves of an accepted file is written as the same bytes, wherever they have room

module _ (file grid list : List ℕ) (e : read_number file (length grid) (length list) ≡ 0) where
  has_codes : file_rows file * file_cols file ≤ length (read_leaves_codes file grid list)
  unfolding read_leaves_codes
  has_codes = rw (e, overlaid_length (file_codes file) grid) (a file grid list e).has_grid

  respelled : spelling (left file grid list) ≡ file
  respelled =
      sym (spelling_first (left file grid list) has_codes)
      ∙ rw (read_codes file grid list e) (sym (a file grid list e).spelled)

  again_spellable : Spellable (left file grid list)
  again_spellable =
      let b = a file grid list e in
      record {
        grid = record {
          some_rows = b.some_rows;
          rows_small = b.rows_small;
          some_cols = b.some_cols;
          cols_small = b.cols_small;
          has_codes = has_codes;
          are_codes = rw (read_codes file grid list e) b.rows.codes;
        };
        few = b.few_outlets;
        inside = b.tail.inside;
      }

  pub left_spellable : Spellable (left_content file grid list)
  left_spellable = subst Spellable (sym (left_is file grid list e)) again_spellable

  module _ (bytes : List ℕ) (h : length file ≤ length bytes) where
    again_accepted : write_number (left file grid list) bytes ≡ 0
    again_accepted = write_accepted (left file grid list) bytes again_spellable (rw respelled h)

    pub written_again_accepted : write_number (left_content file grid list) bytes ≡ 0
    written_again_accepted = ap (λ (c : Content). write_number c bytes) (left_is file grid list e) ∙ again_accepted

    pub written_again : written_file (left_content file grid list) bytes ≡ file
    written_again = written_is (left_content file grid list) bytes written_again_accepted
        ∙ ap spelling (left_is file grid list e) ∙ respelled

-- ---- so each content has ONE SPELLING

content_spelled : (file grid list : List ℕ) → read_number file (length grid) (length list) ≡ 0
    → file ≡ spelling (read_content file grid list)
content_spelled file grid list e =
    (accepted file (length grid) (length list) e).spelled ∙ ap spelling (sym (read_is file grid list e))

pub one_spelling : (file grid list file' grid' list' : List ℕ) → read_number file (length grid) (length list) ≡ 0
    → read_number file' (length grid') (length list') ≡ 0 → read_content file grid list ≡ read_content file' grid' list'
    → file ≡ file'
one_spelling file grid list file' grid' list' e e' same =
    content_spelled file grid list e ∙ ap spelling same ∙ sym (content_spelled file' grid' list' e')

-- ---- and a file is accepted EXACTLY IF IT IS WRITTEN

pub record IsWritten (file : List ℕ) : Type 0 where
  pub content : Content
  pub bytes : List ℕ
  pub writes : write_number content bytes ≡ 0
  pub is_file : written_file content bytes ≡ file

pub accepted_written : (file grid list : List ℕ) → read_number file (length grid) (length list) ≡ 0 → IsWritten file
accepted_written file grid list e = record {
  content = left_content file grid list;
  bytes = file;
  writes = written_again_accepted file grid list e file (omega arith);
  is_file = written_again file grid list e file (omega arith);
}

pub written_accepted : (file grid list : List ℕ) (w : IsWritten file)
    → w.content.rows * w.content.cols ≤ length grid
    → 256 ≤ length list → read_number file (length grid) (length list) ≡ 0
written_accepted file grid list w h k =
    rw w.is_file at (read_back_accepted w.content w.bytes grid list w.writes h k)
