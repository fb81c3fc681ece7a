-- What a tracing answers, by what the search has found.
-- Assumes nothing.
use Rattle.std.specs.Prelude.{cond, ℕ, leb}
use Rattle.lengths.specs.declared.Length.{Length}
use Rattle.answers.specs.declared.Answer.TheVariants.{Refused}
use Rattle.answers.specs.declared.Traced.{Traced}
use Rattle.answers.specs.Answers.{answered, traced_with}

-- before the search nothing is visited or dropped
abbrev pub refused_with : ℕ → Traced
refused_with number = answered 0 0 (Refused number)

-- the answer where the list has room for so many: 0, or 21
abbrev pub answer_with : Length → ℕ → ℕ → ℕ → ℕ → Traced
answer_with len paths visited dropped room = traced_with (cond (leb paths room) 0 21) len paths visited dropped
