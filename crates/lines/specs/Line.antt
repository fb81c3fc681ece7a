-- The lines that the desk program prints, as bytes.
-- Assumes nothing.
use Rattle.std.specs.Prelude.{cond, List, [], ◌∷◌, ◌++◌, ℕ, zero, suc, ◌+◌, ◌/◌, ◌%◌, ltb}
use Rattle.lines.specs.declared.OutletLine.{OutletLine}

-- ---- words, in ASCII

-- "catchment "
abbrev pub word·catchment : List ℕ
word·catchment = 99 ∷ 97 ∷ 116 ∷ 99 ∷ 104 ∷ 109 ∷ 101 ∷ 110 ∷ 116 ∷ 32 ∷ []

-- " outlets "
abbrev pub word·outlets : List ℕ
word·outlets = 32 ∷ 111 ∷ 117 ∷ 116 ∷ 108 ∷ 101 ∷ 116 ∷ 115 ∷ 32 ∷ []

-- "outlet "
abbrev pub word·outlet : List ℕ
word·outlet = 111 ∷ 117 ∷ 116 ∷ 108 ∷ 101 ∷ 116 ∷ 32 ∷ []

-- " at "
abbrev pub word·at : List ℕ
word·at = 32 ∷ 97 ∷ 116 ∷ 32 ∷ []

-- " cells "
abbrev pub word·cells : List ℕ
word·cells = 32 ∷ 99 ∷ 101 ∷ 108 ∷ 108 ∷ 115 ∷ 32 ∷ []

-- " straight "
abbrev pub word·straight : List ℕ
word·straight = 32 ∷ 115 ∷ 116 ∷ 114 ∷ 97 ∷ 105 ∷ 103 ∷ 104 ∷ 116 ∷ 32 ∷ []

-- " diagonal "
abbrev pub word·diagonal : List ℕ
word·diagonal = 32 ∷ 100 ∷ 105 ∷ 97 ∷ 103 ∷ 111 ∷ 110 ∷ 97 ∷ 108 ∷ 32 ∷ []

-- " paths "
abbrev pub word·paths : List ℕ
word·paths = 32 ∷ 112 ∷ 97 ∷ 116 ∷ 104 ∷ 115 ∷ 32 ∷ []

-- " visited "
abbrev pub word·visited : List ℕ
word·visited = 32 ∷ 118 ∷ 105 ∷ 115 ∷ 105 ∷ 116 ∷ 101 ∷ 100 ∷ 32 ∷ []

-- " dropped "
abbrev pub word·dropped : List ℕ
word·dropped = 32 ∷ 100 ∷ 114 ∷ 111 ∷ 112 ∷ 112 ∷ 101 ∷ 100 ∷ 32 ∷ []

-- "path "
abbrev pub word·path : List ℕ
word·path = 112 ∷ 97 ∷ 116 ∷ 104 ∷ 32 ∷ []

-- "refused "
abbrev pub word·refused : List ℕ
word·refused = 114 ∷ 101 ∷ 102 ∷ 117 ∷ 115 ∷ 101 ∷ 100 ∷ 32 ∷ []

-- " "
abbrev pub word·space : List ℕ
word·space = 32 ∷ []

-- "\n"
abbrev pub word·newline : List ℕ
word·newline = 10 ∷ []

-- ---- numbers

-- a number's decimal digits, the last k at most, without zeros in front
unfoldable pub digits : ℕ → ℕ → List ℕ
digits zero n = []
digits (suc k) n = cond (ltb n 10) [] (digits k (n / 10)) ++ ((48 + n % 10) ∷ [])

-- every number of 32 bits has at most ten digits
abbrev pub decimal : ℕ → List ℕ
decimal n = digits 10 n

-- a word and a number
abbrev pub labelled : List ℕ → ℕ → List ℕ
labelled word n = word ++ decimal n

-- ---- lines

-- "The first line has R, C and the outlet count"
unfoldable pub catchment_line : ℕ → ℕ → ℕ → List ℕ
catchment_line rows cols outlets =
    labelled word·catchment rows ++ (labelled word·space cols ++ (labelled word·outlets outlets ++ word·newline))

-- "its place counted from 1, row, column, subaccumulation, a, b and the three counts"
unfoldable pub outlet_line : OutletLine → List ℕ
outlet_line line =
    labelled word·outlet line.place ++ (labelled word·at line.row ++ (labelled word·space line.col
    ++ (labelled word·cells line.cells
    ++ (labelled word·straight line.straight ++ (labelled word·diagonal line.diagonal
    ++ (labelled word·paths line.paths ++ (labelled word·visited line.visited
    ++ (labelled word·dropped line.dropped ++ word·newline))))))))

-- "a line per start, row and column"
unfoldable pub path_line : ℕ → ℕ → List ℕ
path_line row col = labelled word·path row ++ (labelled word·space col ++ word·newline)

-- "A refusal prints only `refused` and its number"
unfoldable pub refused_line : ℕ → List ℕ
refused_line number = labelled word·refused number ++ word·newline
