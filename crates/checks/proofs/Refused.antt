-- A refusal that a check hands on keeps its number, whatever the caller would have asked next.
-- Assumes nothing.
use Rattle.std.proofs.Common.{◌≡◌, Result, sym, ap, ◌∙◌, List, ◌++◌}
use Rattle.std.specs.Result.{IsErrAnd}
use Rattle.std.proofs.lemmas.Result.{err_from_is_err_and}
use Rattle.answers.specs.declared.Refusal.{Refusal}
use Rattle.answers.specs.Refusals.{refusal_number, number_told}
use Rattle.answers.specs.Checks.{Check, first_failed}
use Rattle.answers.proofs.FirstFailed.{handed_on}
use Rattle.answers.proofs.Refusals.{has_number}

pub told : {A : Type 0} (refusal : Refusal) (r : Result A Refusal) → IsErrAnd r (λ e. e ≡ refusal)
    → number_told r ≡ refusal_number refusal
told refusal r h = let p = err_from_is_err_and r h in ap number_told p.1 ∙ ap refusal_number p.2

-- at the exit of a `?`
pub refused : {A : Type 0} (refusal : Refusal) (r : Result A Refusal) (cs ds : List Check)
    → IsErrAnd r (λ e. e ≡ refusal) → refusal_number refusal ≡ first_failed cs
    → number_told r ≡ first_failed (cs ++ ds)
refused refusal r cs ds h e = told refusal r h ∙ handed_on cs ds e (has_number refusal)

-- and it is none of 0
pub not_0 : {A : Type 0} (refusal : Refusal) (r : Result A Refusal) → IsErrAnd r (λ e. e ≡ refusal)
    → number_told r ≡ 0 → ⊥
not_0 refusal r h z = has_number refusal (sym (told refusal r h) ∙ z)
