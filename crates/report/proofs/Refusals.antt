-- The first refusal among numbers.
-- Assumes nothing.
use mathlib.Core.Path.{◌≡◌, refl, sym, ap, ◌∙◌}
use mathlib.Core.List.{List, ◌∷◌}
use Prim.Native.Nat.{ℕ, suc, ◌+◌, ◌-◌, ◌<◌}
use native.Mathlib.Omega.{arith}
use lib.ListN.{length}
use Rattle.std.specs.Prelude.{Result}
use Rattle.std.specs.Result.{IsErrAnd}
use Rattle.std.proofs.lemmas.Result.{err_from_is_err_and}
use borrow.Author.Tests.{ne_eqb}
use Rattle.answers.specs.Entries.{Catchment}
use Rattle.report.specs.Desk.{Tells, first_number, number_at, numbers_from, tracing_number}

pub refuses : {n : ℕ} (ns : List ℕ) → (n ≡ 0 → ⊥) → n ≡ first_number (n ∷ ns)
unfolding first_number
refuses {n} ns h = rw (ne_eqb n 0 h)

pub passes : {n : ℕ} (ns : List ℕ) → n ≡ 0 → first_number ns ≡ first_number (n ∷ ns)
unfolding first_number
passes {n} ns e = rw e

module _ (c : Catchment) (place : ℕ) where
  opened : (n : ℕ) → numbers_from c place (suc n) ≡ number_at c place ∷ numbers_from c (place + 1) n
  unfolding numbers_from
  opened n = refl

  -- those from a place on, of so many in all
  from : (count : ℕ) → place < count
      → numbers_from c place (count - place) ≡ number_at c place ∷ numbers_from c (place + 1) (count - (place + 1))
  from count h =
      let e : count - place ≡ suc (count - (place + 1)) = omega arith in
      ap (numbers_from c place) e ∙ opened (count - (place + 1))

  pub refuses_at : (count : ℕ) → place < count → {n : ℕ} → n ≡ number_at c place → (n ≡ 0 → ⊥)
      → n ≡ first_number (numbers_from c place (count - place))
  refuses_at count h {n} e z =
      refuses (numbers_from c (place + 1) (count - (place + 1))) z
      ∙ ap (λ (m : ℕ). first_number (m ∷ numbers_from c (place + 1) (count - (place + 1)))) e
      ∙ sym (ap first_number (from count h))

  pub passes_at : (count : ℕ) → place < count → number_at c place ≡ 0
      → first_number (numbers_from c (place + 1) (count - (place + 1)))
      ≡ first_number (numbers_from c place (count - place))
  passes_at count h z =
      passes (numbers_from c (place + 1) (count - (place + 1))) z ∙ sym (ap first_number (from count h))

  pub none_left : first_number (numbers_from c place 0) ≡ 0
  unfolding numbers_from first_number
  none_left = refl

-- of a tracing: the first place, and then all
module _ (c : Catchment) where
  pub first_refuses : {n : ℕ} → n ≡ number_at c 0 → (n ≡ 0 → ⊥) → n ≡ tracing_number c
  unfolding tracing_number
  first_refuses e z =
      let rest = numbers_from c 0 (length c.outlets) in
      refuses rest z ∙ ap (λ (m : ℕ). first_number (m ∷ rest)) e

  pub first_passes : number_at c 0 ≡ 0 → first_number (numbers_from c 0 (length c.outlets)) ≡ tracing_number c
  unfolding tracing_number
  first_passes z = passes (numbers_from c 0 (length c.outlets)) z

-- what the exit of a `?` hands on
pub handed : {A : Type 0} {k : ℕ} (m : ℕ) (r : Result A ℕ) → IsErrAnd r (λ e. e ≡ m) → m ≡ k → (m ≡ 0 → ⊥)
    → Tells k r
handed {A} {k} m r h is z = let p = err_from_is_err_and r h in rw p.1 (p.2 ∙ is, λ e. z (sym p.2 ∙ e))
