-- Laws of a list of checks: what the number of the first that fails tells of those before it.
-- Assumes nothing.
use mathlib.Core.Path.{◌≡◌, refl, sym, ap, ◌∙◌}
use mathlib.Core.Bool.{Bool, true, false, cond, not, ◌&&◌, true≢false}
use mathlib.Core.Logic.{◌⊎◌, inl, inr}
use mathlib.Core.List.{List, [], ◌∷◌, ◌++◌}
use Prim.Native.Nat.{ℕ, zero, suc, ◌<◌}
use native.Mathlib.Omega.{arith}
use lib.ListN.{length, get_or}
use lib.Dec.{eqb, leb}
use borrow.Author.Tests.{leb-true, eq-eqb}
use Rattle.lists.specs.Lists.{In, Every}
use Rattle.lists.proofs.Lists.{and_both, every_map}
use Rattle.answers.specs.Checks.{Check, check, first_failed, all_pass}

-- each element of a list of which all pass
pub all_every : {A : Type 0} (f : A → Bool) (xs : List A) → all_pass f xs ≡ true → Every (λ x. f x ≡ true) xs
all_every f [] h = tt
all_every f (x ∷ xs) h = let p = and_both (f x) (all_pass f xs) h in (p.0, all_every f xs p.1)

pub all_at : (f : ℕ → Bool) (xs : List ℕ) → all_pass f xs ≡ true → (i : ℕ) → i < length xs → f (get_or xs i 0) ≡ true
all_at f [] h i l = absurd (omega arith)
all_at f (x ∷ xs) h zero l = (and_both (f x) (all_pass f xs) h).0
all_at f (x ∷ xs) h (suc i) l = all_at f xs (and_both (f x) (all_pass f xs) h).1 i (omega arith)

-- does the check of this number pass? Where there is none, nothing is asked
abbrev pub passes_of : ℕ → List Check → Bool
passes_of k [] = true
passes_of k (c ∷ cs) = cond (eqb c.number k) c.passes (passes_of k cs)

-- the checks before the one that gave the number all pass
all_passed : (n : ℕ) (cs ds : List Check) → Every (λ c. c.number ≡ n → ⊥) cs → first_failed (cs ++ ds) ≡ n → (k : ℕ)
    → passes_of k cs ≡ true
unfolding first_failed
all_passed n [] ds a e k = refl
all_passed n (c ∷ cs) ds a e k = go c.passes refl (λ f. all_passed n cs ds a.1 f k) (eqb c.number k) refl
  where
    go : (b : Bool) → c.passes ≡ b → (first_failed (cs ++ ds) ≡ n → passes_of k cs ≡ true)
        → (t : Bool) → eqb c.number k ≡ t → passes_of k (c ∷ cs) ≡ true
    go true p ih true t = rw t p
    go true p ih false t = rw t (ih (sym (rw p) ∙ e))
    go false p ih _ _ = absurd (a.0 (sym (rw p) ∙ e))

-- a number below 10, or above the last of some checks, is none of theirs
abbrev pub within : ℕ → Check → Bool
within last c = leb 10 c.number && leb c.number last

pub apart : (last n : ℕ) → (n < 10) ⊎ (last < n) → (cs : List Check) → all_pass (within last) cs ≡ true
    → Every (λ c. c.number ≡ n → ⊥) cs
apart last n i [] h = tt
apart last n i (c ∷ cs) h =
    let p = and_both (within last c) (all_pass (within last) cs) h in
    (other i (and_both (leb 10 c.number) (leb c.number last) p.0), apart last n i cs p.1)
  where
    other : (n < 10) ⊎ (last < n) → (leb 10 c.number ≡ true) × (leb c.number last ≡ true) → c.number ≡ n → ⊥
    other (inl j) b e = omega (arith, leb-true 10 c.number b.0)
    other (inr j) b e = omega (arith, leb-true c.number last b.1)

-- PASSED: each of the checks before the one that gave the number, by its own number
pub passed : (last n : ℕ) (cs ds : List Check) → all_pass (within last) cs ≡ true → (n < 10) ⊎ (last < n)
    → first_failed (cs ++ ds) ≡ n → (k : ℕ) → passes_of k cs ≡ true
passed last n cs ds h i e = all_passed n cs ds (apart last n i cs h) e

still_fails : (cs ds : List Check) → (first_failed cs ≡ 0 → ⊥) → first_failed cs ≡ first_failed (cs ++ ds)
unfolding first_failed
still_fails [] ds f = absurd (f refl)
still_fails (c ∷ cs) ds f = go c.passes refl (still_fails cs ds)
  where
    go : (b : Bool) → c.passes ≡ b → ((first_failed cs ≡ 0 → ⊥) → first_failed cs ≡ first_failed (cs ++ ds))
        → cond c.passes (first_failed cs) c.number ≡ cond c.passes (first_failed (cs ++ ds)) c.number
    go true p ih = rw p (ih (λ e. f (rw p e)))
    go false p ih = rw p

-- HANDED ON: a number other than 0 is that of any longer list of checks
pub handed_on : {number : ℕ} (cs ds : List Check) → number ≡ first_failed cs → (number ≡ 0 → ⊥)
    → number ≡ first_failed (cs ++ ds)
handed_on cs ds is f = is ∙ still_fails cs ds (λ e. f (is ∙ e))

-- checks that give 0 leave it to those that follow
pub goes_on : (cs ds : List Check) → Every (λ c. c.number ≡ 0 → ⊥) cs → first_failed cs ≡ 0
    → first_failed (cs ++ ds) ≡ first_failed ds
unfolding first_failed
goes_on [] ds k e = refl
goes_on (c ∷ cs) ds k e = go c.passes refl (goes_on cs ds k.1)
  where
    go : (b : Bool) → c.passes ≡ b → (first_failed cs ≡ 0 → first_failed (cs ++ ds) ≡ first_failed ds)
        → cond c.passes (first_failed (cs ++ ds)) c.number ≡ first_failed ds
    go true p ih = rw p (ih (rw p at e))
    go false p ih = absurd (k.0 (rw p at e))

-- a check that passes does not give its number
pub not_given : (n : ℕ) → (n ≡ 0 → ⊥) → (cs : List Check) → Every (λ c. c.number ≡ n → c.passes ≡ true) cs
    → first_failed cs ≡ n → ⊥
unfolding first_failed
not_given n z [] k e = z (sym e)
not_given n z (c ∷ cs) k e = go c.passes refl (not_given n z cs k.1)
  where
    go : (b : Bool) → c.passes ≡ b → (first_failed cs ≡ n → ⊥) → ⊥
    go true p ih = ih (rw p at e)
    go false p ih = true≢false (sym (k.0 (rw p at e)) ∙ p)

-- a number that none of them has is not given
pub never : (n : ℕ) → (n ≡ 0 → ⊥) → (cs : List Check) → Every (λ c. c.number ≡ n → ⊥) cs → first_failed cs ≡ n → ⊥
never n z cs k = not_given n z cs
    (every_map (λ c. c.number ≡ n → ⊥) (λ c. c.number ≡ n → c.passes ≡ true) (λ c f e. absurd (f e)) cs k)

-- by a computed test
abbrev pub is_other : ℕ → Check → Bool
is_other n c = not (eqb c.number n)

pub others : (n : ℕ) (cs : List Check) → all_pass (is_other n) cs ≡ true → Every (λ c. c.number ≡ n → ⊥) cs
others n [] h = tt
others n (c ∷ cs) h =
    let p = and_both (is_other n c) (all_pass (is_other n) cs) h in
    (λ e. true≢false (sym p.0 ∙ ap not (eq-eqb c.number n e)), others n cs p.1)

-- PASSED, by that test
pub passed_others : (n : ℕ) (cs ds : List Check) → all_pass (is_other n) cs ≡ true → first_failed (cs ++ ds) ≡ n → (k : ℕ)
    → passes_of k cs ≡ true
passed_others n cs ds h e = all_passed n cs ds (others n cs h) e

-- a number that none before the last has is the last one's, or 0
pub last_given : (m n : ℕ) (b : Bool) (cs : List Check) → Every (λ c. c.number ≡ m → ⊥) cs
    → first_failed (cs ++ (check n b ∷ [])) ≡ m → cond b 0 n ≡ m
unfolding first_failed
last_given m n b [] k e = e
last_given m n b (c ∷ cs) k e = go c.passes refl (last_given m n b cs k.1)
  where
    go : (p : Bool) → c.passes ≡ p → (first_failed (cs ++ (check n b ∷ [])) ≡ m → cond b 0 n ≡ m) → cond b 0 n ≡ m
    go true p ih = ih (rw p at e)
    go false p ih = absurd (k.0 (rw p at e))

-- ONLY THESE: where a check can fail only if its number is one of these, once those before it have passed, so is the
-- number given
abbrev pub FailsOnly : List ℕ → List Check → Type 0
FailsOnly ns [] = Unit {0}
FailsOnly ns (c ∷ cs) = ((c.passes ≡ true) ⊎ In c.number ns) × (c.passes ≡ true → FailsOnly ns cs)

pub fails_only : (ns : List ℕ) → In 0 ns → (cs : List Check) → FailsOnly ns cs → In (first_failed cs) ns
unfolding first_failed
fails_only ns z [] f = z
fails_only ns z (c ∷ cs) f = go c.passes refl f.0 (λ p. fails_only ns z cs (f.1 p))
  where
    go : (b : Bool) → c.passes ≡ b → (c.passes ≡ true) ⊎ In c.number ns
        → (c.passes ≡ true → In (first_failed cs) ns) → In (cond c.passes (first_failed cs) c.number) ns
    go true p i ih = rw p (ih p)
    go false p (inl e) ih = absurd (true≢false (sym e ∙ p))
    go false p (inr i) ih = rw p i
