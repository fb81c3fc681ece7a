-- 01's example sheet gives 01's three lines, by computation.
-- Assumes nothing.
use mathlib.Core.Path.{◌≡◌, refl}
use Rattle.lists.specs.Lists.{sum_of}
use Rattle.lists.specs.Slices.{overlaid}
use Rattle.lengths.specs.Rule.{compared, ruled, sign_of, is_shorter}
use Rattle.ground.specs.Tables.{dir_of, is_code}
use Rattle.ground.specs.Grid.{code_at, neighbour, next, inflow_record, inflows}
use Rattle.ground.specs.Walk.{ring_free}
use Rattle.ground.specs.Accumulation.{balance, agrees, subaccumulation}
use Rattle.ground.specs.Forest.{forest}
use Rattle.search.specs.Tracing.{tracing_by}
use Rattle.answers.specs.Checks.{first_failed, check10, check11, check12, check13, check14, check15, check16, check17}
use Rattle.answers.specs.Checks.{check18, check20, check21, check25}
use Rattle.answers.specs.Entries.{accumulate_number, accumulate_leaves}
use Rattle.answers.specs.Answers.{traced_with}
use Rattle.answers.specs.Tracings.{stack_number, leaves_subaccumulation, leaves_starts}
use Rattle.lines.specs.Line.{digits, catchment_line, outlet_line, path_line}
use Rattle.spelling.specs.Reading.{number_at, is_record, codes_from, outlet_count, outlets_from, tail_checks, rows_checks}
use Rattle.spelling.specs.Reading.{read_number, read_answer, read_leaves_codes, read_leaves_outlets}
use Rattle.spelling.specs.Examples.{sample}
use Rattle.report.specs.Desk.{first_number, traced_at, left_at, path_lines, answer_lines, outlet_lines, outlets_lines}
use Rattle.report.specs.Desk.{numbers_from, tracing_number, sheet_number, sheet_text, desk_text}
use Rattle.report.specs.Example.{example_text}

pub example : desk_text sample ≡ example_text
unfolding sum_of overlaid compared ruled sign_of is_shorter dir_of code_at neighbour next inflow_record inflows ring_free
    balance agrees subaccumulation forest tracing_by first_failed is_code check10 check11 check12 check13 check14 check15
    check16 check17 check18 check20 check21 check25 accumulate_number accumulate_leaves traced_with stack_number
    leaves_subaccumulation leaves_starts digits catchment_line outlet_line path_line number_at is_record codes_from outlet_count
    outlets_from tail_checks rows_checks read_number read_answer read_leaves_codes read_leaves_outlets first_number traced_at left_at
    path_lines answer_lines outlet_lines outlets_lines numbers_from tracing_number sheet_number sheet_text desk_text
example = refl
