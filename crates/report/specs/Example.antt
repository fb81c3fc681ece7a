-- 01's example: the desk's whole output for the sheet of one row, byte by byte.
-- Assumes nothing.
use Rattle.std.specs.Prelude.{List, [], ◌∷◌, ◌++◌, ℕ}

-- catchment 1 4 outlets 1
abbrev pub example_catchment : List ℕ
example_catchment =
    99 ∷ 97 ∷ 116 ∷ 99 ∷ 104 ∷ 109 ∷ 101 ∷ 110 ∷ 116 ∷ 32 ∷ 49 ∷ 32 ∷ 52 ∷ 32 ∷ 111 ∷ 117 ∷ 116 ∷ 108 ∷ 101 ∷ 116
    ∷ 115 ∷ 32 ∷ 49 ∷ 10 ∷ []

-- outlet 1 at 0 1 cells 4 straight 2 diagonal 0 paths 1 visited 3 dropped 1
abbrev pub example_outlet : List ℕ
example_outlet =
    111 ∷ 117 ∷ 116 ∷ 108 ∷ 101 ∷ 116 ∷ 32 ∷ 49 ∷ 32 ∷ 97 ∷ 116 ∷ 32 ∷ 48 ∷ 32 ∷ 49 ∷ 32 ∷ 99 ∷ 101 ∷ 108 ∷ 108
    ∷ 115 ∷ 32 ∷ 52 ∷ 32 ∷ 115 ∷ 116 ∷ 114 ∷ 97 ∷ 105 ∷ 103 ∷ 104 ∷ 116 ∷ 32 ∷ 50 ∷ 32 ∷ 100 ∷ 105 ∷ 97 ∷ 103 ∷ 111
    ∷ 110 ∷ 97 ∷ 108 ∷ 32 ∷ 48 ∷ 32 ∷ 112 ∷ 97 ∷ 116 ∷ 104 ∷ 115 ∷ 32 ∷ 49 ∷ 32 ∷ 118 ∷ 105 ∷ 115 ∷ 105 ∷ 116 ∷ 101
    ∷ 100 ∷ 32 ∷ 51 ∷ 32 ∷ 100 ∷ 114 ∷ 111 ∷ 112 ∷ 112 ∷ 101 ∷ 100 ∷ 32 ∷ 49 ∷ 10 ∷ []

-- path 0 3
abbrev pub example_path : List ℕ
example_path =
    112 ∷ 97 ∷ 116 ∷ 104 ∷ 32 ∷ 48 ∷ 32 ∷ 51 ∷ 10 ∷ []

abbrev pub example_text : List ℕ
example_text = example_catchment ++ example_outlet ++ example_path
