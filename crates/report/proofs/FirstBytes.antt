-- What stands in a file beyond the longest sheet changes nothing that the desk prints.
-- Assumes nothing.
use mathlib.Core.Path.{◌≡◌, refl, ap}
use mathlib.Core.Bool.{Bool, true, false}
use mathlib.Core.List.{List}
use Prim.Native.Nat.{ℕ, ◌≤◌}
use native.Mathlib.Omega.{arith}
use lib.ListN.{take}
use lib.Seq.{take_all}
use lib.Dec.{eqb}
use borrow.Author.Tests.{eqb-true}
use Rattle.spelling.specs.Reading.{read_number, read_answer}
use Rattle.spelling.proofs.FirstBytes.{read_first, accepted_short}
use Rattle.report.specs.Desk.{desk_text, file_bytes}

-- an accepted file is no longer than that, and of a refused one only the number is printed
text_first : (n : ℕ) → 5900 ≤ n → (file : List ℕ) → desk_text (take n file) ≡ desk_text file
unfolding desk_text read_answer
text_first n h file = go (eqb (read_number file 4096 256) 0) refl
  where
    go : (b : Bool) → eqb (read_number file 4096 256) 0 ≡ b → desk_text (take n file) ≡ desk_text file
    go true p =
        let short = accepted_short file 4096 256 (eqb-true (read_number file 4096 256) 0 p) in
        ap desk_text (take_all n file (omega arith))
    go false p = rw (read_first n h file 4096 256, p, p)

-- what the desk program reads of a file gives the text of the whole
pub first_bytes : (file : List ℕ) → desk_text (take file_bytes file) ≡ desk_text file
first_bytes = text_first file_bytes (omega arith)
