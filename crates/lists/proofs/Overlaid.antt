-- Laws of what is left in a lent slice: new numbers in front, and the rest kept.
-- Assumes nothing.
use mathlib.Core.Path.{◌≡◌, refl, sym, ap, ◌∙◌, subst}
use mathlib.Core.List.{List, [], ◌∷◌, ◌++◌, append-nil}
use Prim.Native.Nat.{ℕ, suc, ◌+◌, ◌-◌, ◌≤◌, ◌<◌}
use native.Mathlib.Nat.{add-zero}
use native.Mathlib.Numerals.{add-one}
use native.Mathlib.Omega.{arith}
use native.Mathlib.Decide.{dec_lt}
use lib.ListN.{length, get_or, set, take, drop, length-append, length-take, length-drop, drop_of_length-le}
use lib.ListN.{length-replicate, get_or-replicate, get_or-append}
use lib.Seq.{sets, sets-eq, drop-cons, take_all, take_at, take-append-le, ext_get_or, get_or-append-add, get_or-drop}
use Rattle.lists.specs.Slices.{overlaid, zeros, Kept}

-- what is left of a lent list is as long as it was
pub overlaid_length : (new old : List ℕ) → length (overlaid new old) ≡ length old
unfolding overlaid
overlaid_length new old = simp (length-append, length-take, length-drop) (omega arith)

-- where there is room for all of them, the new numbers stand whole before the rest of the old
pub overlaid_front : (new old : List ℕ) → length new ≤ length old → overlaid new old ≡ new ++ drop (length new) old
unfolding overlaid
overlaid_front new old h = ap (λ (l : List ℕ). l ++ drop (length new) old) (take_all (length old) new h)

pub overlaid_taken : (new old : List ℕ) → length new ≤ length old → take (length new) (overlaid new old) ≡ new
overlaid_taken new old h =
    ap (take (length new)) (overlaid_front new old h) ∙ take_at new (drop (length new) old) (length new) refl

pub overlaid_at : (new old : List ℕ) → length new ≤ length old → (x : ℕ) → x < length new
    → get_or (overlaid new old) x 0 ≡ get_or new x 0
overlaid_at new old h x i =
    ap (λ (l : List ℕ). get_or l x 0) (overlaid_front new old h) ∙ get_or-append new (drop (length new) old) 0 x i

-- where there is not, as many of the first stand there as there are places
pub overlaid_short : (new old : List ℕ) → length old ≤ length new → overlaid new old ≡ take (length old) new
unfolding overlaid
overlaid_short new old h = rw (drop_of_length-le old h) (append-nil (take (length old) new))

-- where there is room for none beyond the first of them, more change nothing
pub overlaid_full : (new more old : List ℕ) → length old ≤ length new → overlaid (new ++ more) old ≡ overlaid new old
unfolding overlaid
overlaid_full new more old h =
    let e : length (new ++ more) ≡ length new + length more = length-append new more in
    rw (
      take-append-le (length old) new more h,
      drop_of_length-le old h,
      drop_of_length-le old {i = length (new ++ more)} (omega (arith, e)),
    )

-- what was changed only where the new numbers come makes no difference
pub overlaid_kept : (xs : List ℕ) {old new : List ℕ} → Kept (length xs) old new → overlaid xs new ≡ overlaid xs old
unfolding overlaid
overlaid_kept xs {old} {new} k = rw k.same_length (ap (λ (l : List ℕ). take (length old) xs ++ l)
    (ext_get_or 0 (drop (length xs) new) (drop (length xs) old)
    (length-drop (length xs) new ∙ rw k.same_length (sym (length-drop (length xs) old)))
    (λ i h. get_or-drop (length xs) new i 0 ∙ k.rest (length xs + i) (omega arith)
    ∙ sym (get_or-drop (length xs) old i 0))))

-- a list that has the new numbers in front, and kept what lies beyond, is that list
pub front_is : (xs : List ℕ) {old new : List ℕ} → length xs ≤ length old → Kept (length xs) old new
    → ((x : ℕ) → x < length xs → get_or new x 0 ≡ get_or xs x 0) → new ≡ overlaid xs old
front_is xs {old} {new} r k w = ext_get_or 0 new (xs ++ drop (length xs) old)
    (omega (arith, k.same_length, length-append xs (drop (length xs) old), length-drop (length xs) old))
    (λ i l. elim (dec_lt i (length xs)) [ yes a ↦ low i a | no a ↦ high i (omega arith) ])
    ∙ sym (overlaid_front xs old r)
  where
    low : (i : ℕ) → i < length xs → get_or new i 0 ≡ get_or (xs ++ drop (length xs) old) i 0
    low i a = w i a ∙ sym (get_or-append xs (drop (length xs) old) 0 i a)

    high : (i : ℕ) → length xs ≤ i → get_or new i 0 ≡ get_or (xs ++ drop (length xs) old) i 0
    high i a =
        let e : i ≡ length xs + (i - length xs) = omega arith in
        k.rest i a ∙ ap (λ (j : ℕ). get_or old j 0) e ∙ sym (get_or-drop (length xs) old (i - length xs) 0)
        ∙ sym (get_or-append-add xs (drop (length xs) old) (i - length xs) 0)
        ∙ ap (λ (j : ℕ). get_or (xs ++ drop (length xs) old) j 0) (sym e)

-- or zeros
pub cleared_front : (n : ℕ) {old new : List ℕ} → n ≤ length old → Kept n old new
    → ((x : ℕ) → x < n → get_or new x 0 ≡ 0) → new ≡ overlaid (zeros n) old
cleared_front n {old} {new} r k z = front_is (zeros n) (omega (arith, r, long))
    (subst (λ (m : ℕ). Kept m old new) (sym long) k)
    (λ x h. let i : x < n = omega (arith, h, long) in z x i ∙ sym (get_or-replicate n x 0 0 i))
  where
    long : length (zeros n) ≡ n
    long = length-replicate n 0

-- from the start, where there is room
pub sets_overlaid : (l xs : List ℕ) → length xs ≤ length l → sets l 0 xs ≡ overlaid xs l
sets_overlaid l xs h =
    let e : 0 + length xs ≡ length xs = omega arith in
    sets-eq xs l 0 (omega arith) ∙ rw e (sym (overlaid_front xs l h))

-- ---- numbers stored one by one

pub copy_next : (l from : List ℕ) (place i : ℕ) → i < length from
    → sets l (place + i) (drop i from) ≡ sets (set l (place + i) (get_or from i 0)) (place + (i + 1)) (drop (i + 1) from)
copy_next l from place i h =
    let e : place + (i + 1) ≡ suc (place + i) = omega arith in rw (drop-cons from i 0 h, e, add-one i)

pub copied : (l from : List ℕ) (at i : ℕ) → length from ≤ i → l ≡ sets l at (drop i from)
copied l from at i h = rw (drop_of_length-le from {i = i} h)

-- one run of stores after another
pub sets_after : (xs ys l : List ℕ) (i : ℕ) → sets (sets l i xs) (i + length xs) ys ≡ sets l i (xs ++ ys)
sets_after [] ys l i = rw (add-zero i)
sets_after (x ∷ xs) ys l i =
    let e : i + suc (length xs) ≡ suc i + length xs = omega arith in rw e (sets_after xs ys (set l i x) (suc i))
