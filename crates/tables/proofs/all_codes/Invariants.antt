-- `tables::all_codes` meets its contract. The loop's invariant: `worst` is 0 if all before `at` are codes, else 1.
-- Assumes nothing.
use mathlib.Core.Path.{◌≡◌}
use lib.ListN.{get_or}
use Rattle.lists.specs.Lists.{member, all_below}
use Rattle.tables.specs.Faults.{fault_of}
use Rattle.tables.proofs.all_codes.Given as goal

abbrev pub invariant-loop-code : goal.invariant-loop-code
invariant-loop-code l = l.worst ≡ fault_of (all_below (λ x. member (get_or l.codes x 0) l.table) l.code-index)
