-- `lines::put_number` ends: a tenth of a number is smaller.
use Rattle.lines.proofs.+put_number.Given as goal

abbrev pub decreases-put_number : goal.decreases-put_number
decreases-put_number l = l.n
