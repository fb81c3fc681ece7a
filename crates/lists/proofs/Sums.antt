-- Laws of sums, of the greatest of a list, and of lists run together.
-- Assumes nothing.
use mathlib.Core.Path.{◌≡◌, refl, ap, ◌∙◌}
use mathlib.Core.List.{List, [], ◌∷◌, ◌++◌, map, append_assoc}
use Prim.Native.Nat.{ℕ, zero, suc, ◌+◌, ◌≤◌, ◌<◌, max}
use native.Mathlib.Omega.{arith}
use lib.ListN.{length, get_or, take, drop, length-append}
use lib.Seq.{drop-cons, take-append_seam, drop-append-add}
use Rattle.lists.specs.Lists.{Every, sum_of, greatest_of, joined}

-- ---- the first k of a list

pub sum_next : (xs : List ℕ) (k : ℕ) → k < length xs → sum_of (take (suc k) xs) ≡ sum_of (take k xs) + get_or xs k 0
unfolding sum_of
sum_next [] k h = absurd (omega arith)
sum_next (x ∷ xs) zero h = omega arith
sum_next (x ∷ xs) (suc k) h = omega (arith, sum_next xs k (omega arith))

-- are no more than the first m
pub sum_more : (xs : List ℕ) (k m : ℕ) → k ≤ m → sum_of (take k xs) ≤ sum_of (take m xs)
unfolding sum_of
sum_more xs zero m h = omega arith
sum_more xs (suc k) zero h = absurd (omega arith)
sum_more [] (suc k) (suc m) h = omega arith
sum_more (x ∷ xs) (suc k) (suc m) h = omega (arith, sum_more xs k m (omega arith))

-- ---- a number of each element

module _ (f : ℕ → ℕ) where
  -- of what is left from j on, the first and the others
  pub sum_left : (xs : List ℕ) (j : ℕ) → j < length xs
      → sum_of (map f (drop j xs)) ≡ f (get_or xs j 0) + sum_of (map f (drop (suc j) xs))
  unfolding sum_of
  sum_left xs j h = rw (drop-cons xs j 0 h)

  pub greatest_left : (xs : List ℕ) (j : ℕ) → j < length xs
      → greatest_of (map f (drop j xs)) ≡ max (f (get_or xs j 0)) (greatest_of (map f (drop (suc j) xs)))
  unfolding greatest_of
  greatest_left xs j h = rw (drop-cons xs j 0 h)

  -- none exceeds the greatest
  pub none_greater : (xs : List ℕ) (j : ℕ) → j < length xs → f (get_or xs j 0) ≤ greatest_of (map f xs)
  unfolding greatest_of
  none_greater [] j h = absurd (omega arith)
  none_greater (x ∷ xs) zero h = omega arith
  none_greater (x ∷ xs) (suc j) h = omega (arith, none_greater xs j (omega arith))

  module _ (h : ℕ → ℕ) where
    -- two sums by parts
    pub sum_parts : (xs : List ℕ) → sum_of (map (λ x. f x + h x) xs) ≡ sum_of (map f xs) + sum_of (map h xs)
    unfolding sum_of
    sum_parts [] = refl
    sum_parts (x ∷ xs) = omega (arith, sum_parts xs)

    pub sum_alike : (xs : List ℕ) → Every (λ x. f x ≡ h x) xs → sum_of (map f xs) ≡ sum_of (map h xs)
    unfolding sum_of
    sum_alike [] e = refl
    sum_alike (x ∷ xs) e = omega (arith, e.0, sum_alike xs e.1)

-- the same number of each element has the same greatest
pub greatest_alike : (f h : ℕ → ℕ) (xs : List ℕ) → Every (λ x. f x ≡ h x) xs → greatest_of (map f xs) ≡ greatest_of (map h xs)
unfolding greatest_of
greatest_alike f h [] e = refl
greatest_alike f h (x ∷ xs) e = omega (arith, e.0, greatest_alike f h xs e.1)

-- ---- a list of each element, run together

module _ (s : ℕ → List ℕ) where
  abbrev pub lengths : List ℕ → List ℕ
  lengths = map (λ x. length (s x))

  pub joined_left : (xs : List ℕ) (j : ℕ) → j < length xs
      → joined (map s (drop j xs)) ≡ s (get_or xs j 0) ++ joined (map s (drop (suc j) xs))
  unfolding joined
  joined_left xs j h = rw (drop-cons xs j 0 h)

  pub joined_length : (xs : List ℕ) → length (joined (map s xs)) ≡ sum_of (lengths xs)
  unfolding joined sum_of
  joined_length [] = refl
  joined_length (x ∷ xs) = omega (arith, length-append (s x) (joined (map s xs)), joined_length xs)

  -- the i-th stands where those before it end
  pub joined_part : (xs rest : List ℕ) (i : ℕ) → i < length xs
      → take (length (s (get_or xs i 0))) (drop (sum_of (take i (lengths xs))) (joined (map s xs) ++ rest)) ≡ s (get_or xs i 0)
  unfolding joined sum_of
  joined_part [] rest i h = absurd (omega arith)
  joined_part (x ∷ xs) rest zero h = ap (take (length (s x))) (append_assoc (s x) (joined (map s xs)) rest)
      ∙ take-append_seam (s x) (joined (map s xs) ++ rest)
  joined_part (x ∷ xs) rest (suc i) h =
      ap (λ (l : List ℕ). take (length (s (get_or xs i 0))) (drop (length (s x) + sum_of (take i (lengths xs))) l))
      (append_assoc (s x) (joined (map s xs)) rest)
      ∙ ap (take (length (s (get_or xs i 0))))
      (drop-append-add (s x) (joined (map s xs) ++ rest) (sum_of (take i (lengths xs))))
      ∙ joined_part xs rest i (omega arith)
