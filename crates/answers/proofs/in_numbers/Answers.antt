-- `answers::in_numbers` meets its contract.
-- Assumes nothing.
use mathlib.Core.Path.{sym, ap}
use Rattle.answers.specs.Answers.{in_numbers}
use Rattle.answers.proofs.in_numbers.Goals as goal

pub returns-in-Found : goal.returns-in-Found
returns-in-Found c = sym (ap in_numbers c.in-Found.is)

pub returns-in-NoPlace : goal.returns-in-NoPlace
returns-in-NoPlace c = sym (ap in_numbers c.in-NoPlace.is)

pub returns-in-Refused : goal.returns-in-Refused
returns-in-Refused c = sym (ap in_numbers c.in-Refused.is)
