-- Stores that keep what lies beyond the first places.
-- Assumes nothing.
use mathlib.Core.Path.{◌≡◌, refl, ◌∙◌}
use mathlib.Core.List.{List, [], ◌∷◌}
use Prim.Native.Nat.{ℕ, zero, suc, ◌+◌, ◌≤◌, ◌<◌}
use native.Mathlib.Omega.{arith}
use lib.ListN.{length, get_or, set, length-set}
use lib.Seq.{get_or-set_same, get_or-set_other}
use borrow.Author.Count.{below_more}
use Rattle.lists.specs.Lists.{sum_of}
use Rattle.lists.specs.Slices.{Kept}

pub kept_all : {n : ℕ} {l : List ℕ} → Kept n l l
kept_all = record { same_length = refl; rest = λ x h. refl }

pub kept_then : {n : ℕ} {l m r : List ℕ} → Kept n l m → Kept n m r → Kept n l r
kept_then a b = record { same_length = b.same_length ∙ a.same_length; rest = λ x h. b.rest x h ∙ a.rest x h }

-- more places may change
pub kept_wider : {m n : ℕ} {l r : List ℕ} → m ≤ n → Kept m l r → Kept n l r
kept_wider h k = record { same_length = k.same_length; rest = λ x i. k.rest x (omega arith) }

pub kept_set : {n : ℕ} {l : List ℕ} (i v : ℕ) → i < n → Kept n l (set l i v)
kept_set {n} {l} i v h = record {
  same_length = length-set l i v;
  rest = λ x k. get_or-set_other l i x v 0 (λ q. omega arith);
}

-- what a store adds to the sum
pub sum_set : (l : List ℕ) (i v : ℕ) → i < length l → sum_of (set l i v) + get_or l i 0 ≡ sum_of l + v
unfolding sum_of
sum_set [] i v h = absurd (omega arith)
sum_set (x ∷ xs) zero v h = omega arith
sum_set (x ∷ xs) (suc i) v h = omega (arith, sum_set xs i v (omega arith))

-- one number more is stored in front
pub stored : (f : ℕ → ℕ) (l : List ℕ) (k v : ℕ) → k < length l → ((j : ℕ) → j < k → get_or l j 0 ≡ f j) → v ≡ f k
    → (j : ℕ) → j < k + 1 → get_or (set l k v) j 0 ≡ f j
stored f l k v inside below e =
    below_more (λ (j : ℕ). get_or (set l k v) j 0 ≡ f j) k
    (λ j h. get_or-set_other l k j v 0 (λ q. omega arith) ∙ below j h) (get_or-set_same l k v 0 inside ∙ e)
