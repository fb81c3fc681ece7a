-- M1 TO M11, the grids that catch mistakes, ponds and divides, all by one computation.
-- Assumes nothing.
use mathlib.Core.Path.{◌≡◌, refl}
use mathlib.Core.List.{map}
use Rattle.lengths.specs.Rule.{compared, ruled, sign_of, is_shorter}
use Rattle.lists.specs.Lists.{sum_of}
use Rattle.ground.specs.Tables.{is_code, dir_of}
use Rattle.ground.specs.Grid.{code_at, neighbour, next, inflow_record, inflows}
use Rattle.ground.specs.Walk.{ring_free}
use Rattle.ground.specs.Accumulation.{balance, agrees, subaccumulation}
use Rattle.ground.specs.Subwatershed.{belongs, in_subwatershed, walked}
use Rattle.ground.specs.Divide.{on_divide}
use Rattle.ground.specs.Forest.{forest}
use Rattle.ground.specs.FlowLengths.{longer_of, upstream_length, arrival, flow_lengths}
use Rattle.search.specs.Tracing.{tracing_by}
use Rattle.answers.specs.Checks.{first_failed, check10, check11, check12, check13, check14, check15}
use Rattle.answers.specs.Checks.{check16, check17, check18, check19, check20, check21, check22, check23, check25}
use Rattle.lists.specs.Slices.{overlaid}
use Rattle.answers.specs.Entries.{accumulate_number, accumulate_leaves, check_number, subaccumulate_number}
use Rattle.answers.specs.Entries.{subaccumulate_leaves}
use Rattle.answers.specs.Answers.{traced_with}
use Rattle.answers.specs.Tracings.{recursion_number, stack_number, leaves_subaccumulation, leaves_starts, leaves_work}
use Rattle.answers.specs.Drawing.{draw_number, draw_leaves, drawn_part}
use Rattle.answers.specs.FlowLengths.{flow_lengths_number, lengths_over, flow_lengths_leaves}
use Rattle.answers.specs.MarkedRows.{worked}
use Rattle.answers.specs.Marked.{marks}

pub marked : map worked marks ≡ marks
unfolding compared ruled sign_of is_shorter sum_of dir_of code_at neighbour next inflow_record inflows ring_free balance
    agrees subaccumulation belongs in_subwatershed walked forest tracing_by first_failed is_code check10 check11 check12
    check13 check14 check15 check16 check17 check18 check19 check20 check21 check22 check23 check25 on_divide overlaid
    accumulate_number
    accumulate_leaves check_number subaccumulate_number subaccumulate_leaves traced_with recursion_number stack_number
    leaves_subaccumulation leaves_starts leaves_work draw_number draw_leaves drawn_part longer_of upstream_length arrival
    flow_lengths flow_lengths_number lengths_over flow_lengths_leaves
marked = refl
