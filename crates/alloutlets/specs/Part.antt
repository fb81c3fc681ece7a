-- The starts of one outlet, as a part of the list that tracing all outlets has filled. List and counts are lent numbers
-- and may be any.
-- Assumes nothing.
use Rattle.std.specs.Prelude.{◌≡◌, cond, ◌&&◌, List, ℕ, ◌+◌, ◌*◌, ◌<◌, length, get_or, take, drop, eqb, leb, ltb}
use Rattle.lists.specs.Lists.{sum_of}
use Rattle.alloutlets.specs.declared.Part.{Part}

module _ (counts : List ℕ) (choice : ℕ) where
  -- the counts before its own
  abbrev pub starts_before : ℕ
  starts_before = sum_of (take choice counts)

  -- how many starts the part shows of a list of n: its own count, but none where the choice is outside the count list or
  -- the counts up to and with its own run past the starts
  unfoldable pub part_count : ℕ → ℕ
  part_count n =
      cond (ltb choice (length counts) && leb (starts_before + get_or counts choice 0) n) (get_or counts choice 0) 0

  -- where it begins in the list; 0 is told of an empty part
  unfoldable pub part_begin : ℕ → ℕ
  part_begin n = cond (eqb (part_count n) 0) 0 starts_before

abbrev pub starts_part : List ℕ → List ℕ → ℕ → List ℕ
starts_part starts counts choice = take (part_count counts choice (length starts)) (drop (starts_before counts choice) starts)

-- the same as the code holds it
abbrev pub part_at : List ℕ → ℕ → ℕ → Part
part_at counts choice n = record { begin = part_begin counts choice n; count = part_count counts choice n }

-- what is handed back of a list that lies at a block of memory and an offset of bytes: the part holds the outlet's starts
-- and, where there are any, begins at the first of them. Where an empty part begins is left open
pub record ShowsStarts (starts : List ℕ) (at : ℕ × ℕ) (counts : List ℕ) (choice : ℕ) (part : List ℕ) (begin : ℕ × ℕ)
    : Type 0 where
  pub holds : part ≡ starts_part starts counts choice
  pub begins : 0 < length part → begin ≡ (at.0, at.1 + 4 * starts_before counts choice)
