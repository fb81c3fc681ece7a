-- `counting::word_of` meets its contract.
-- Assumes nothing.
use mathlib.Core.Path.{◌≡◌}
use mathlib.Core.Bool.{cond}
use native.Mathlib.Omega.{arith}
use borrow.Author.Rules.{rules}
use Rattle.std.proofs.Common.{tests, count_by}
use Rattle.std.proofs.lemmas.Iterator.{YieldsList-from_map, YieldsList-from_slice}
use Rattle.std.proofs.lemmas.Iterator.Adapters.{fits_from_length, at_most_from_yields_List}
use Rattle.std.proofs.lemmas.Iterator.Consumers.{sum_by_from_yields_List}
use Rattle.std.proofs.lemmas.List.Sums.{count_by-le-length}
use Rattle.counting.proofs.word_of.Goals as goal
use Rattle.counting.proofs.word_of.Goals.{After-sum-inflows}

pub sum-inflows-requires-clause-fits : goal.sum-inflows-requires-clause-fits
sum-inflows-requires-clause-fits c =
    fits_from_length _ _ 8 _ (at_most_from_yields_List (YieldsList-from_slice c.args.flows.now cc) (search rules))
    c.map.ensures.closure (omega arith) (λ x r q k. search (rules, tests))

-- what is added up is how many flow in
counted : (c : After-sum-inflows) → c.sum-inflows.result ≡ count_by (λ b. b) c.args.flows.now
counted c =
    sum_by_from_yields_List (λ b. cond b 1 0) _ _ _ c.sum-inflows.ensures.ran
    (YieldsList-from_map _ (λ b. cond b 1 0) (YieldsList-from_slice c.args.flows.now cc) c.map.ensures.closure
    (λ x r q k. search rules))

pub overflow_mul-word : goal.overflow_mul-word
overflow_mul-word c = omega (arith, counted c, count_by-le-length (λ b. b) c.args.flows.now)

pub overflow_add-word : goal.overflow_add-word
overflow_add-word c = omega (arith, counted c, count_by-le-length (λ b. b) c.args.flows.now)
