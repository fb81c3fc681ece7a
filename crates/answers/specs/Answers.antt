-- A tracing's answer in the paper's numbers, and the answer that each number gets.
-- Assumes nothing.
use Rattle.std.specs.Prelude.{cond, ℕ, eqb}
use Rattle.lengths.specs.declared.Length.{Length}
use Rattle.search.specs.Tracing.{Tracing, longest_length, path_count}
use Rattle.answers.specs.declared.Answer.{Answer}
use Rattle.answers.specs.declared.Answer.TheVariants.{Found, NoPlace, Refused}
use Rattle.answers.specs.declared.Numbers.{Numbers}
use Rattle.answers.specs.declared.Traced.{Traced}

abbrev pub numbers : ℕ → ℕ → ℕ → ℕ → Numbers
numbers number straight diagonal paths =
    record { number = number; straight = straight; diagonal = diagonal; paths = paths }

-- 01: "found with its length and number of paths, no place with the true number of paths, or another refusal". The
-- number and the values of each case; what a case has no value for is 0
abbrev pub in_numbers : Answer → Numbers
in_numbers (Found straight diagonal paths) = numbers 0 straight diagonal paths
in_numbers (NoPlace paths) = numbers 21 0 0 paths
in_numbers (Refused number) = numbers number 0 0 0

abbrev pub number_of : Answer → ℕ
number_of answer = (in_numbers answer).number

abbrev pub answered : ℕ → ℕ → Answer → Traced
answered visited dropped answer = record { visited = visited; dropped = dropped; answer = answer }

-- the answer to each number: on 0 the length and how many paths there are; on 21 how many there are; else the number
-- itself. What was visited and dropped is told with the first two, and is 0 with the others
unfoldable pub traced_with : ℕ → Length → ℕ → ℕ → ℕ → Traced
traced_with number len paths visited dropped =
    cond (eqb number 0) (answered visited dropped (Found len.straight len.diagonal paths))
    (cond (eqb number 21) (answered visited dropped (NoPlace paths))
    (answered 0 0 (Refused number)))

abbrev pub traced_by : ℕ → Tracing → Traced
traced_by number t = traced_with number (longest_length t) (path_count t) t.visited t.dropped
