-- DEMAND 3 in what a caller sees of a tracing: the answer, and the list of starts at exit.
-- Assumes nothing.
use Rattle.std.specs.Prelude.{◌≡◌, ◌↔◌, List, ℕ, ◌+◌, ◌≤◌, ◌<◌, length, take}
use Rattle.lengths.specs.declared.Length.{Length}
use Rattle.lists.specs.Lists.{In, Sorted, how_many}
use Rattle.ground.specs.Grid.{cell_count}
use Rattle.ground.specs.Subwatershed.{in_subwatershed, HasLength, Before, Longest}
use Rattle.search.specs.Editions.{may_start}
use Rattle.search.specs.Tracing.{first_tracing}
use Rattle.answers.specs.declared.Answer.TheVariants.{Found, NoPlace}
use Rattle.answers.specs.declared.Traced.{Traced}
use Rattle.answers.specs.Answers.{number_of, in_numbers}
use Rattle.answers.specs.Entries.{Catchment}
use Rattle.answers.specs.Tracings.{Call, Lent, chosen, chosen_tracing, TracesByRecursion, TracesByStack}

-- 01, Longest: "All such cells are listed", and in which order. 02, U7: by edition 2 of the divide cells alone
pub record LongestStarts (edition : ℕ) (c : Catchment) (o : ℕ) (cells : List ℕ) : Type 0 where
  -- exactly the cells of the subwatershed that may start and whose walk none of these exceeds
  pub exact : (x : ℕ) → In x cells ↔ Longest c.grid c.outlets (may_start edition c.grid c.outlets o) o x
  -- each once
  pub once : Sorted (λ x y. x ≡ y → ⊥) cells
  -- every earlier one parts from every later one by an earlier neighbour
  pub ordered : Sorted (Before c.grid c.outlets) cells

module _ (q : Call) (r : Traced) where
  -- visited and dropped are what the search counts, together the cells of the subwatershed, and no more are visited
  -- than by 01's rule
  pub record SearchCounts : Type 0 where
    pub visited : r.visited ≡ (chosen_tracing q).visited
    pub dropped : r.dropped ≡ (chosen_tracing q).dropped
    pub all_cells : let c = q.catchment in
        r.visited + r.dropped ≡ how_many (in_subwatershed c.grid c.outlets (chosen q)) (cell_count c.grid)
    pub no_more_visited : let c = q.catchment in
        r.visited ≤ (first_tracing q.edition q.dropping c.grid c.outlets (chosen q)).visited

  module _ (starts : List ℕ) where
    -- on 0: found, with the length of each listed cell's walk, and as many paths as there are cells listed
    pub record FoundAll : Type 0 where
      pub len : Length
      pub paths : ℕ
      pub found : r.answer ≡ Found len.straight len.diagonal paths
      pub has_place : paths ≤ length starts
      pub some_path : 0 < paths
      pub listed : LongestStarts q.edition q.catchment (chosen q) (take paths starts)
      pub lengths : (c : ℕ) → In c (take paths starts)
          → HasLength q.catchment.grid q.catchment.outlets (chosen q) c len
      pub counts : SearchCounts

    -- on 21: the true number, and a list full of the first starts
    pub record FoundTooMany : Type 0 where
      pub all : List ℕ
      pub no_place : r.answer ≡ NoPlace (length all)
      pub too_short : length starts < length all
      pub longest : LongestStarts q.edition q.catchment (chosen q) all
      pub full : starts ≡ take (length starts) all
      pub counts : SearchCounts

    -- what every call promises a buyer
    pub record Seen : Type 0 where
      pub on_0 : number_of r.answer ≡ 0 → FoundAll
      pub on_21 : number_of r.answer ≡ 21 → FoundTooMany

-- ---- four ways: by either engine, with and without dropping

-- one of the two entries was called with what is lent here, and answered and left this
pub data Way (q : Call) (r : Traced) (new : Lent) : Type 0 where
  by_recursion : (old : Lent) → TracesByRecursion q old r new → Way q r new
  by_stack : (old : Lent) (work space : List ℕ) → TracesByStack q old work r new space → Way q r new

-- the same length, the same number of paths, the same starts in the same places
pub record Alike (r : Traced) (starts : List ℕ) (r' : Traced) (starts' : List ℕ) : Type 0 where
  pub same_answer : r.answer ≡ r'.answer
  pub same_list : take (in_numbers r.answer).paths starts ≡ take (in_numbers r'.answer).paths starts'
