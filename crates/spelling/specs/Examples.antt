-- The sheet of 01, damaged sheets, and calls of writing, as one table. Each row holds what is called and what it
-- answers and leaves; `worked` works the row out again from what is called.
-- Assumes nothing.
use Rattle.std.specs.Prelude.{List, [], ◌∷◌, ◌++◌, ℕ, ◌-◌, ◌^◌, length, take, drop, set, replicate}
use Rattle.answers.specs.MarkedRows.{nines}
use Rattle.spelling.specs.Content.{Content, content}
use Rattle.spelling.specs.Format.{outlet_record, end_record, spelling}
use Rattle.spelling.specs.Reading.{SheetTold, read_answer, read_leaves_codes, read_leaves_outlets}
use Rattle.spelling.specs.Writing.{WrittenTold, write_answer, write_leaves}

pub data Example : Type 0 where
  -- reading a file into a grid and a list: what is handed back, and left in the two
  reads : (file grid list : List ℕ) → SheetTold → List ℕ → List ℕ → Example
  -- writing a content: what is handed back, and left in the bytes
  writes : Content → (bytes : List ℕ) → WrittenTold → List ℕ → Example

abbrev pub worked : Example → Example
worked (reads file grid list s codes outlets) =
    reads file grid list (read_answer file (length grid) (length list)) (read_leaves_codes file grid list)
    (read_leaves_outlets file grid list)
worked (writes c bytes w left) = writes c bytes (write_answer c bytes) (write_leaves c bytes)

-- 44 38 01 00 04 00 52 57 00 00 01 04 10 10 4F 54 00 00 01 00 45 4E
abbrev pub sample : List ℕ
sample =
    68 ∷ 56 ∷ 1 ∷ 0 ∷ 4 ∷ 0 ∷ 82 ∷ 87 ∷ 0 ∷ 0 ∷ 1 ∷ 4 ∷ 16 ∷ 16 ∷ 79 ∷ 84 ∷ 0 ∷ 0 ∷ 1 ∷ 0 ∷ 69 ∷ 78 ∷ []

abbrev pub sample_codes : List ℕ
sample_codes = 1 ∷ 4 ∷ 16 ∷ 16 ∷ []

-- two rows of four, no outlets
abbrev pub two_rows : List ℕ
two_rows = spelling (content 2 4 (4 ∷ 4 ∷ 4 ∷ 0 ∷ 1 ∷ 1 ∷ 1 ∷ 1 ∷ []) [])

-- a file that is refused where so many places are lent, all of them nines
abbrev refuses : List ℕ → ℕ → ℕ → ℕ → Example
refuses file grid list number =
    reads file (nines grid) (nines list) (record { number = number; rows = 0; cols = 0; outlets = 0 }) (nines grid)
    (nines list)

-- in enough places
abbrev damaged : List ℕ → ℕ → Example
damaged file number = refuses file 8 256 number

abbrev accepts : List ℕ → ℕ → ℕ → List ℕ → List ℕ → Example
accepts file rows cols codes outlets =
    reads file (nines 9) (nines 257)
    (record { number = 0; rows = rows; cols = cols; outlets = length outlets })
    (codes ++ drop (length codes) (nines 9)) (outlets ++ drop (length outlets) (nines 257))

-- a call of writing that is refused, with so many bytes lent
abbrev unwritten : Content → ℕ → ℕ → Example
unwritten c bytes number = writes c (nines bytes) (record { number = number; length = 0 }) (nines bytes)

abbrev pub examples : List Example
examples =
    accepts sample 1 4 sample_codes (1 ∷ [])
    -- 1: empty, cut, another mark
    ∷ damaged [] 1
    ∷ damaged (take 5 sample) 1
    ∷ damaged (set sample 0 69) 1
    ∷ damaged (set sample 1 57) 1
    -- 2: 0 and 65, and the high bytes; before a whole row is looked for
    ∷ damaged (set sample 2 0) 2
    ∷ damaged (set sample 2 65) 2
    ∷ damaged (set sample 3 1) 2
    ∷ damaged (set sample 4 0) 2
    ∷ damaged (set sample 4 65) 2
    ∷ damaged (set sample 5 1) 2
    -- 3: one place too few, before the rows are looked at
    ∷ refuses sample 3 256 3
    ∷ refuses sample 4 255 3
    ∷ refuses (take 6 sample) 3 256 3
    -- 4: cut, another mark, another row number, by either byte
    ∷ damaged (take 6 sample) 4
    ∷ damaged (take 13 sample) 4
    ∷ damaged (set sample 6 83) 4
    ∷ damaged (set sample 7 88) 4
    ∷ damaged (set sample 8 1) 4
    ∷ damaged (set sample 9 1) 4
    ∷ damaged (set two_rows 16 0) 4
    -- 5: not among the ten; before the next row is looked for. A pond is
    ∷ damaged (set sample 10 3) 5
    ∷ damaged (set sample 13 254) 5
    ∷ damaged (set (take 14 two_rows) 12 3) 5
    ∷ accepts (set sample 13 255) 1 4 (1 ∷ 4 ∷ 16 ∷ 255 ∷ []) (1 ∷ [])
    -- 6: over, cut, another mark
    ∷ damaged (take 14 sample) 6
    ∷ damaged (take 19 sample) 6
    ∷ damaged (take 20 sample) 6
    ∷ damaged (take 21 sample) 6
    ∷ damaged (set sample 14 80) 6
    ∷ damaged (set sample 21 79) 6
    -- 7: beyond the rows or beyond the columns, by either byte, though the cell number be inside
    ∷ damaged (set sample 16 1) 7
    ∷ damaged (set sample 17 1) 7
    ∷ damaged (set sample 18 4) 7
    ∷ damaged (set sample 19 1) 7
    ∷ damaged (take 22 two_rows ++ outlet_record 0 5 ++ end_record) 7
    -- 9: anything after the end
    ∷ damaged (sample ++ 0 ∷ []) 9
    ∷ damaged (sample ++ end_record) 9
    ∷ damaged (sample ++ outlet_record 0 0 ++ end_record) 9
    -- no outlets; the same outlet twice, on a null cell
    ∷ accepts two_rows 2 4 (4 ∷ 4 ∷ 4 ∷ 0 ∷ 1 ∷ 1 ∷ 1 ∷ 1 ∷ []) []
    ∷ accepts (take 22 two_rows ++ outlet_record 0 3 ++ outlet_record 0 3 ++ end_record) 2 4
    (4 ∷ 4 ∷ 4 ∷ 0 ∷ 1 ∷ 1 ∷ 1 ∷ 1 ∷ []) (3 ∷ 3 ∷ [])
    -- writing: in more bytes, and in just enough; a fifth code is not looked at
    ∷ writes (content 1 4 sample_codes (1 ∷ [])) (nines 24) (record { number = 0; length = 22 }) (sample ++ 9 ∷ 9 ∷ [])
    ∷ writes (content 1 4 (sample_codes ++ 3 ∷ []) (1 ∷ [])) (nines 22) (record { number = 0; length = 22 }) sample
    ∷ writes (content 1 4 (1 ∷ 4 ∷ 16 ∷ 255 ∷ []) (1 ∷ [])) (nines 22) (record { number = 0; length = 22 })
    (set sample 13 255)
    -- 2, 3, 5, 8, 7, 23, each before the next
    ∷ unwritten (content 0 4 [] []) 0 2
    ∷ unwritten (content 1 65 [] []) 0 2
    ∷ unwritten (content (2 ^ 64 - 1) (2 ^ 64 - 1) [] []) 0 2
    ∷ unwritten (content 1 4 (1 ∷ 4 ∷ 3 ∷ []) []) 0 3
    ∷ unwritten (content 1 2 (1 ∷ 5 ∷ []) (replicate 257 2)) 0 5
    ∷ unwritten (content 1 2 (1 ∷ 4 ∷ []) (replicate 257 2)) 0 8
    ∷ unwritten (content 1 2 (1 ∷ 4 ∷ []) (0 ∷ 2 ∷ [])) 0 7
    ∷ unwritten (content 1 4 sample_codes (1 ∷ [])) 21 23
    ∷ []
