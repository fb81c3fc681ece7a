-- The tables of the code, and their numbers.
-- Assumes nothing.
use Rattle.std.specs.Prelude.{◌≡◌, true, false, ℕ, Result, MatchResult}
use Rattle.ground.specs.Tables.{Table, table1, table2, table3, is_table, table_of}
use Rattle.answers.specs.declared.Refusal.{Refusal}
use Rattle.answers.specs.declared.Refusal.TheVariants as refusal
use Rattle.tables.specs.declared.CodeTable.{CodeTable}
use Rattle.tables.specs.declared.CodeTable.TheVariants.{Powers, CounterClockwise, Clockwise}

-- the table that is meant
abbrev pub the_table : CodeTable → Table
the_table Powers = table1
the_table CounterClockwise = table2
the_table Clockwise = table3

-- the number is a table's, and this is the table; or it is no table's, and 24 says so
abbrev pub Numbered : ℕ → Result CodeTable Refusal → Type 0
Numbered number r = MatchResult r
    (λ table. (is_table number ≡ true) × (the_table table ≡ table_of number))
    (λ e. (is_table number ≡ false) × (e ≡ refusal.Table))
