-- The entries that judge 14, each by its promise. An entry that joins them is one line here and one in the law that
-- 14 never comes after accumulating.
-- Assumes nothing.
use Rattle.std.specs.Prelude.{◌≡◌, Bool, List, ℕ}
use Rattle.answers.specs.declared.Traced.{Traced}
use Rattle.answers.specs.Answers.{number_of}
use Rattle.answers.specs.Entries.{Catchment, check_number, Subaccumulates}
use Rattle.answers.specs.FlowLengths.{LengthGrids, TellsFlowLengths}
use Rattle.answers.specs.Tracings.{Call, Lent, TracesByRecursion, TracesByStack}
use Rattle.answers.specs.Drawing.{Drawing, draw_number, Draws}
use Rattle.alloutlets.specs.declared.TracedAll.{TracedAll}
use Rattle.alloutlets.specs.AllOutlets.{LentAll, TracesAll}

module _ (c : Catchment) where
  abbrev pub called : ℕ → ℕ → Bool → Call
  called edition place dropping = record { edition = edition; catchment = c; place = place; dropping = dropping }

  abbrev pub drawn : ℕ → ℕ → Drawing
  drawn place start = record { catchment = c; place = place; start = start }

  -- an entry that was lent this catchment, and whatever else, kept its promise with this number
  pub data Answered : ℕ → Type 0 where
    check_accumulation : {n : ℕ} → n ≡ check_number c.grid c.accumulation → Answered n
    subaccumulate : {n : ℕ} {old new : List ℕ} → Subaccumulates c old n new → Answered n
    flow_lengths_told : {n : ℕ} {old new : LengthGrids} → TellsFlowLengths c old n new → Answered n
    trace_by_recursion : {e p : ℕ} {d : Bool} {old new : Lent} {r : Traced}
        → TracesByRecursion (called e p d) old r new → Answered (number_of r.answer)
    trace_by_stack : {e p : ℕ} {d : Bool} {old new : Lent} {work space : List ℕ} {r : Traced}
        → TracesByStack (called e p d) old work r new space → Answered (number_of r.answer)
    trace_all : {e : ℕ} {old new : LentAll} {r : TracedAll} → TracesAll e c old r new → Answered r.number
    draw : {p s n count : ℕ} {old new : List ℕ} → Draws (drawn p s) old n count new → Answered n
    drawing_number : (p s : ℕ) (lent : List ℕ) {n : ℕ} → n ≡ draw_number (drawn p s) lent → Answered n
