-- What the search needs of lengths, as one record of laws, and that square cells fulfil it. The laws hold of all
-- lengths that stand for numbers p + q√k. Assumes nothing.
use mathlib.Core.Path.{◌≡◌, refl, sym, ap, ap₂, ◌∙◌}
use mathlib.Core.Bool.{Bool, true, false, cond}
use mathlib.Core.List.{List, [], ◌∷◌}
use Prim.Native.Nat.{ℕ, zero, suc, ◌+◌, ◌*◌, ◌<◌}
use native.Mathlib.Nat.{add-zero}
use native.Mathlib.Omega.{arith}
use native.Mathlib.Decide.{dec_lt}
use lib.ListN.{length}
use Rattle.lengths.specs.declared.Step.{Step}
use Rattle.lengths.specs.declared.Step.TheVariants.{Straight, Diagonal}
use Rattle.lengths.specs.declared.Length.{Length}
use Rattle.std.specs.declared.cmp.Ordering.TheVariants.{Less, Equal, Greater}
use Rattle.lengths.specs.Rule.{counts, plus_step, compared, is_shorter}
use Rattle.lengths.specs.Lengths.{Lengths, square_cells, stepped_by, farthest}
use Rattle.lengths.proofs.Surds.{surd_less, square_sum, surd_asym, surd_trans, surd_shift, surd_shift_left}
use Rattle.lengths.proofs.Surds.{surd_more}
use Rattle.lengths.proofs.Ordered.{shorter_is, shorter_refl, same_counts, compared_is}

-- `shorter` is a strict order, in which ties are allowed; steps make longer and keep the order; `top` is the longest
-- step
pub record LengthLaws {S : Type 0} (𝓛 : Lengths S) : Type 0 where
  pub asym : (x y : 𝓛.Len) → 𝓛.shorter x y ≡ true → 𝓛.shorter y x ≡ false
  pub trans : (x y z : 𝓛.Len) → 𝓛.shorter y x ≡ false → 𝓛.shorter z y ≡ false → 𝓛.shorter z x ≡ false
  pub grows : (x : 𝓛.Len) (s : S) → 𝓛.shorter x (𝓛.◌▹◌ x s) ≡ true
  pub mono : (x y : 𝓛.Len) (s : S) → 𝓛.shorter y x ≡ false → 𝓛.shorter (𝓛.◌▹◌ y s) (𝓛.◌▹◌ x s) ≡ false
  pub at_top : (x : 𝓛.Len) (s : S) → 𝓛.shorter (𝓛.◌▹◌ x 𝓛.top) (𝓛.◌▹◌ x s) ≡ false

-- no length is shorter than itself
pub irrefl : {S : Type 0} (𝓛 : Lengths S) → LengthLaws 𝓛 → (x : 𝓛.Len) → 𝓛.shorter x x ≡ false
irrefl 𝓛 laws x = go (𝓛.shorter x x) refl
  where
    go : (b : Bool) → 𝓛.shorter x x ≡ b → 𝓛.shorter x x ≡ false
    go true e = laws.asym x x e
    go false e = e

-- lengths that stand for p + q√k, whose steps stand for i + j√k
module _ (k : ℕ) {S : Type 0} (𝓛 : Lengths S) (p q : 𝓛.Len → ℕ) (i j : S → ℕ) where
  open 𝓛 use {Len, ◌▹◌, top, shorter}

  pub record StandsFor : Type 0 where
    pub compares : (x y : Len) → shorter x y ≡ surd_less k (p x) (q x) (p y) (q y)
    pub adds_p : (x : Len) (s : S) → p (x ▹ s) ≡ p x + i s
    pub adds_q : (x : Len) (s : S) → q (x ▹ s) ≡ q x + j s
    pub positive : (s : S) → 0 < i s + k * j s
    pub longest : (s : S) → surd_less k (i top) (j top) (i s) (j s) ≡ false

  module _ (m : StandsFor) where
    -- one comparison at known numbers
    at : (x y : Len) (a b c d : ℕ) → p x ≡ a → q x ≡ b → p y ≡ c → q y ≡ d → shorter x y ≡ surd_less k a b c d
    at x y a b c d e f g h = cc (m.compares x y)

    of : (x y : Len) (b : Bool) → shorter x y ≡ b → surd_less k (p x) (q x) (p y) (q y) ≡ b
    of x y b h = sym (m.compares x y) ∙ h

    pub surd_laws : LengthLaws 𝓛
    surd_laws = record {
      asym = λ x y h. m.compares y x ∙ surd_asym k (p x) (q x) (p y) (q y) (of x y true h);
      trans = λ x y z h g. m.compares z x ∙ surd_trans k (p x) (q x) (p y) (q y) (p z) (q z) (of y x false h)
          (of z y false g);
      grows = λ x s. at x (x ▹ s) (p x) (q x) (p x + i s) (q x + j s) refl refl (m.adds_p x s) (m.adds_q x s)
          ∙ surd_more k (p x) (q x) (i s) (j s) (m.positive s);
      mono = λ x y s h. at (y ▹ s) (x ▹ s) (p y + i s) (q y + j s) (p x + i s) (q x + j s) (m.adds_p y s)
          (m.adds_q y s) (m.adds_p x s) (m.adds_q x s)
          ∙ surd_shift k (p y) (q y) (p x) (q x) (i s) (j s) ∙ of y x false h;
      at_top = λ x s. at (x ▹ top) (x ▹ s) (p x + i top) (q x + j top) (p x + i s) (q x + j s) (m.adds_p x top)
          (m.adds_q x top) (m.adds_p x s) (m.adds_q x s)
          ∙ surd_shift_left k (i top) (j top) (i s) (j s) (p x) (q x) ∙ m.longest s;
    }

-- square cells: k is 2
abbrev straights : Step → ℕ
straights Straight = 1
straights Diagonal = 0

abbrev diagonals : Step → ℕ
diagonals Straight = 0
diagonals Diagonal = 1

adds_straights : (l : Length) (s : Step) → (square_cells.◌▹◌ l s).straight ≡ l.straight + straights s
adds_straights l Straight = refl
adds_straights l Diagonal = sym (add-zero l.straight)

adds_diagonals : (l : Length) (s : Step) → (square_cells.◌▹◌ l s).diagonal ≡ l.diagonal + diagonals s
adds_diagonals l Straight = sym (add-zero l.diagonal)
adds_diagonals l Diagonal = refl

some_step : (s : Step) → 0 < straights s + 2 * diagonals s
some_step Straight = omega arith
some_step Diagonal = omega arith

no_longer_step : (s : Step) → surd_less 2 0 1 (straights s) (diagonals s) ≡ false
unfolding surd_less square_sum
no_longer_step Straight = refl
no_longer_step Diagonal = refl

pub squares_stand : StandsFor 2 square_cells (λ l. l.straight) (λ l. l.diagonal) straights diagonals
squares_stand = record {
  compares = shorter_is;
  adds_p = adds_straights;
  adds_q = adds_diagonals;
  positive = some_step;
  longest = no_longer_step;
}

pub square_laws : LengthLaws square_cells
square_laws = surd_laws 2 square_cells (λ l. l.straight) (λ l. l.diagonal) straights diagonals squares_stand

-- the laws stay when steps go by another name
pub stepped_laws : {S T : Type 0} (f : T → S) (top : T) (𝓛 : Lengths S) → f top ≡ 𝓛.top → LengthLaws 𝓛
    → LengthLaws (stepped_by f top 𝓛)
stepped_laws f top 𝓛 e laws = record {
  asym = laws.asym;
  trans = laws.trans;
  grows = λ x t. laws.grows x (f t);
  mono = λ x y t. laws.mono x y (f t);
  at_top = λ x t. rw (e, stepped_by) (laws.at_top x (f t));
}

-- neither is shorter: the same counts
pub square_same : (l m : Length) → is_shorter l m ≡ false → is_shorter m l ≡ false → l ≡ m
square_same l m h g = same_counts l m (compared_is l m ∙ cc (shorter_is l m, shorter_is m l))

-- A STEP ADDED TO BOTH KEEPS THE ORDER
pub step_keeps : (l m : Length) (s : Step) → compared (plus_step l s) (plus_step m s) ≡ compared l m
step_keeps l m s = compared_is (plus_step l s) (plus_step m s)
    ∙ ap₂ (λ b c. cond b Less (cond c Greater Equal)) (less_keeps l m) (less_keeps m l) ∙ sym (compared_is l m)
  where
    shift : (x y : Length) → surd_less 2 (x.straight + straights s) (x.diagonal + diagonals s)
        (y.straight + straights s) (y.diagonal + diagonals s) ≡ surd_less 2 x.straight x.diagonal y.straight
        y.diagonal
    shift x y = surd_shift 2 x.straight x.diagonal y.straight y.diagonal (straights s) (diagonals s)

    less_keeps : (x y : Length) → surd_less 2 (plus_step x s).straight (plus_step x s).diagonal
        (plus_step y s).straight (plus_step y s).diagonal ≡ surd_less 2 x.straight x.diagonal y.straight
        y.diagonal
    less_keeps x y = cc (
      squares_stand.adds_p x s,
      squares_stand.adds_q x s,
      squares_stand.adds_p y s,
      squares_stand.adds_q y s,
      shift x y,
    )

-- A LENGTH ADDED TO BOTH KEEPS THE ORDER,
pub sum_keeps : (d l m : Length) → is_shorter (counts (d.straight + l.straight) (d.diagonal + l.diagonal))
    (counts (d.straight + m.straight) (d.diagonal + m.diagonal)) ≡ is_shorter l m
sum_keeps d l m = shorter_is (counts (d.straight + l.straight) (d.diagonal + l.diagonal))
    (counts (d.straight + m.straight) (d.diagonal + m.diagonal))
    ∙ surd_shift_left 2 l.straight l.diagonal m.straight m.diagonal d.straight d.diagonal
    ∙ sym (shorter_is l m)

-- and added to one makes it no shorter
pub sum_no_shorter : (d l : Length)
    → is_shorter (counts (d.straight + l.straight) (d.diagonal + l.diagonal)) d ≡ false
sum_no_shorter d l = elim (dec_lt 0 (l.straight + 2 * l.diagonal)) [
  | yes h ↦ square_laws.asym d (counts (d.straight + l.straight) (d.diagonal + l.diagonal))
      (shorter_is d (counts (d.straight + l.straight) (d.diagonal + l.diagonal))
      ∙ surd_more 2 d.straight d.diagonal l.straight l.diagonal h)
  | no h ↦
      let e : d.straight + l.straight ≡ d.straight = omega arith in
      let f : d.diagonal + l.diagonal ≡ d.diagonal = omega arith in
      rw (e, f) (irrefl square_cells square_laws d)
]

-- N STEPS NEVER EXCEED N√2
module _ {S : Type 0} (𝓛 : Lengths S) (laws : LengthLaws 𝓛) where
  open 𝓛 use {Len, ◌▹◌, top, shorter}

  -- so many steps one after the other
  pub steps : Len → List S → Len
  steps l [] = l
  steps l (s ∷ ss) = steps (l ▹ s) ss

  -- as many of the longest
  pub top_steps : Len → List S → Len
  top_steps l [] = l
  top_steps l (s ∷ ss) = top_steps (l ▹ top) ss

  pub steps_at_most : (l m : Len) (ss : List S) → shorter m l ≡ false → shorter (top_steps m ss) (steps l ss) ≡ false
  unfolding steps top_steps
  steps_at_most l m [] h = h
  steps_at_most l m (s ∷ ss) h =
      steps_at_most (l ▹ s) (m ▹ top) ss (laws.trans (l ▹ s) (l ▹ top) (m ▹ top) (laws.at_top l s)
      (laws.mono l m top h))

top_counts : (l : Length) (ss : List Step) → top_steps square_cells square_laws l ss ≡ counts l.straight
    (l.diagonal + length ss)
unfolding top_steps
top_counts l [] = ap (counts l.straight) (sym (add-zero l.diagonal))
top_counts l (s ∷ ss) = top_counts (plus_step l Diagonal) ss ∙ ap (counts l.straight) (omega arith)

pub never_exceed : (l : Length) (ss : List Step) → is_shorter (counts l.straight (l.diagonal + length ss))
    (steps square_cells square_laws l ss) ≡ false
never_exceed l ss = ap (λ (m : Length). is_shorter m (steps square_cells square_laws l ss)) (sym (top_counts l ss))
    ∙ steps_at_most square_cells square_laws l l ss (shorter_refl l)

-- ---- the farthest that n steps reach, by counts

pub farthest_is : (d : Length) (n : ℕ) → counts d.straight (d.diagonal + n) ≡ farthest square_cells d n
farthest_is d zero = let e : d.diagonal + 0 ≡ d.diagonal = omega arith in rw e
farthest_is d (suc n) =
    let e : d.diagonal + suc n ≡ d.diagonal + 1 + n = omega arith in
    rw e (farthest_is (counts d.straight (d.diagonal + 1)) n)

-- the same by steps of another kind
pub farthest_by : {S T : Type 0} (f : T → S) (top : T) (𝓛 : Lengths S) → f top ≡ 𝓛.top → (d : 𝓛.Len) (n : ℕ)
    → farthest (stepped_by f top 𝓛) d n ≡ farthest 𝓛 d n
farthest_by f top 𝓛 e d zero = refl
farthest_by f top 𝓛 e d (suc n) = farthest_by f top 𝓛 e (𝓛.◌▹◌ d (f top)) n
    ∙ ap (λ s. farthest 𝓛 (𝓛.◌▹◌ d s) n) e
