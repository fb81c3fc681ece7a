-- `counting::inner_word_at` meets its contract, as `word_at` does.
-- Assumes nothing.
use mathlib.Core.Path.{refl, ◌∙◌}
use mathlib.Core.Bool.{false}
use borrow.Author.Rules.{rules}
use Rattle.moves.proofs.Spots.{inside}
use Rattle.counting.proofs.Words.{word_is}
use Rattle.counting.proofs.inner_word_at.Goals as goal

pub returns : goal.returns
returns c =
    let made = c.from_fn.ensures.items in
    c.word_of.ensures
    ∙ word_is _ _ _ refl (inside c.requires.on) made.long (λ j h. let here = made.at j false h in search rules)
