-- How the length a + b√2 stands to c + d√2, by whole numbers alone.
-- Assumes nothing.
use Rattle.std.specs.Prelude.{Bool, true, false, cond, ℕ, ◌+◌, ◌-◌, ◌*◌, ltb}
use Rattle.lengths.specs.declared.Step.{Step}
use Rattle.lengths.specs.declared.Step.TheVariants.{Straight, Diagonal}
use Rattle.lengths.specs.declared.Length.{Length}
use Rattle.std.specs.declared.cmp.Ordering.{Ordering}
use Rattle.std.specs.declared.cmp.Ordering.TheVariants.{Less, Equal, Greater}

-- 01, Length: so many straight and so many diagonal steps
abbrev pub counts : ℕ → ℕ → Length
counts a b = record { straight = a; diagonal = b }

-- one step more
abbrev pub plus_step : Length → Step → Length
plus_step l Straight = counts (l.straight + 1) l.diagonal
plus_step l Diagonal = counts l.straight (l.diagonal + 1)

-- the sign of x − y: `Less` is minus, `Equal` is 0, `Greater` is plus
unfoldable pub sign_of : ℕ → ℕ → Ordering
sign_of x y = cond (ltb x y) Less (cond (ltb y x) Greater Equal)

-- the size of x − y
abbrev pub size_of : ℕ → ℕ → ℕ
size_of x y = (x - y) + (y - x)

-- of two signs that differ, that of the larger
abbrev pub larger : Ordering → ℕ → Ordering → ℕ → Ordering
larger s p t q = cond (ltb (2 * (q * q)) (p * p)) s t

-- the sign of p + q√2, from the signs s of p and t of q and their sizes: where one is 0 the other decides, where they
-- agree both do, and else the larger of p² and 2q²
unfoldable pub ruled : Ordering → ℕ → Ordering → ℕ → Ordering
ruled s p Equal q = s
ruled Equal p Less q = Less
ruled Equal p Greater q = Greater
ruled Less p Less q = Less
ruled Greater p Greater q = Greater
ruled Less p Greater q = larger Less p Greater q
ruled Greater p Less q = larger Greater p Less q

-- 01's comparison of a + b√2 with c + d√2, by p = a − c and q = b − d
unfoldable pub compared : Length → Length → Ordering
compared l m = ruled
    (sign_of l.straight m.straight)
    (size_of l.straight m.straight)
    (sign_of l.diagonal m.diagonal)
    (size_of l.diagonal m.diagonal)

abbrev pub says_shorter : Ordering → Bool
says_shorter Less = true
says_shorter Equal = false
says_shorter Greater = false

-- is the first shorter than the second?
unfoldable pub is_shorter : Length → Length → Bool
is_shorter l m = says_shorter (compared l m)
