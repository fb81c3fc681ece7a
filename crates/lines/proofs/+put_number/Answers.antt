-- `lines::put_number` meets its contract. A tenth of a number is smaller.
-- Assumes nothing.
use mathlib.Core.Path.{sym}
use native.Mathlib.Omega.{arith}
use Rattle.lines.proofs.Appending.{appends_both, appends_as}
use Rattle.lines.proofs.Digits.{one_digit, next_digit}
use Rattle.lines.proofs.+put_number.Goals as goal

pub returns-then-n-lt10 : goal.returns-then-n-lt10
returns-then-n-lt10 t c = appends_as (sym (one_digit 9 c.args.n c.if-n-lt10.true)) c.put.ensures

pub returns : goal.returns
returns t c =
    appends_as (sym (next_digit c.args.n c.if-n-lt10.false (omega (arith, c.ranges.n))))
    (appends_both c.put_number-to.ensures c.put-2.ensures)
