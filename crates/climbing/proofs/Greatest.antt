-- The upstream length of a cell from its tributaries that are left: one more is left, or all are.
-- Assumes nothing.
use mathlib.Core.Path.{◌≡◌, refl, sym, ap, ap₂, ◌∙◌, subst}
use mathlib.Core.Bool.{Bool, true, false}
use mathlib.Core.Logic.{◌⊎◌, inl, inr}
use mathlib.Core.List.{List}
use mathlib.Core.Option.{some}
use Prim.Native.Nat.{ℕ, ◌+◌}
use native.Mathlib.Omega.{arith}
use Rattle.lists.proofs.Counts.{also, also_same, also_or, also_in}
use Rattle.lengths.specs.declared.Length.{Length}
use Rattle.lengths.specs.Rule.{counts, plus_step, is_shorter}
use Rattle.lengths.specs.Lengths.{square_cells}
use Rattle.lengths.proofs.Laws.{square_laws, square_same, irrefl, sum_no_shorter}
use Rattle.ground.specs.Compass.{Dir, opposite, step_of}
use Rattle.ground.specs.Grid.{Grid, ground, next}
use Rattle.ground.specs.Accumulation.{agrees}
use Rattle.ground.specs.Subwatershed.{is_outlet}
use Rattle.ground.specs.FlowLengths.{upstream_length}
use Rattle.ground.proofs.Cells.{opposite_twice}
use Rattle.ground.proofs.FlowLengths.{upstream_bound, upstream_attained, LongestInflow}
use Rattle.traversal.specs.Traversal.{Tributary}
use Rattle.climbing.specs.Giving.{FromLeft, GreatestLeft}

-- no length is shorter than none
pub none_shorter : (l : Length) → is_shorter l (counts 0 0) ≡ false
none_shorter l =
    let s : l.straight ≡ 0 + l.straight = omega arith in
    let d : l.diagonal ≡ 0 + l.diagonal = omega arith in
    ap₂ (λ (m n : ℕ). is_shorter (counts m n) (counts 0 0)) s d ∙ sum_no_shorter (counts 0 0) l

module _ (g : Grid) (outlets : List ℕ) where
  abbrev Trib : ℕ → Dir → ℕ → Type 0
  Trib = Tributary (next g) (is_outlet g outlets)

  -- the length of a cell by a tributary
  abbrev by : Dir → ℕ → Length
  by d y = plus_step (upstream_length g outlets y) (step_of (opposite d))

  -- nothing is left
  pub greatest_none : (left : ℕ → Bool) (c : ℕ) (l : Length) → ((d : Dir) (y : ℕ) → Trib c d y → left y ≡ true → ⊥)
      → l ≡ counts 0 0 → GreatestLeft g outlets left c l
  greatest_none left c l h e = record { bound = λ d y u i. absurd (h d y u i); attained = inl e }

  pub greatest_zero : {left : ℕ → Bool} {c : ℕ} {l : Length} → GreatestLeft g outlets left c l
      → ((d : Dir) (y : ℕ) → Trib c d y → left y ≡ true → ⊥) → l ≡ counts 0 0
  greatest_zero {left} {c} {l} r h = go r.attained
    where
      go : (l ≡ counts 0 0) ⊎ FromLeft g outlets left c l → l ≡ counts 0 0
      go (inl e) = e
      go (inr f) = absurd (h f.dir f.cell f.flows f.is_left)

  module _ {left : ℕ → Bool} {c : ℕ} {l : Length} (r : GreatestLeft g outlets left c l) (x : ℕ) where
    -- as it was, with one more cell left
    kept : (l ≡ counts 0 0) ⊎ FromLeft g outlets left c l → (l ≡ counts 0 0) ⊎ FromLeft g outlets (also left x) c l
    kept (inl e) = inl e
    kept (inr f) = inr (record {
      dir = f.dir;
      cell = f.cell;
      flows = f.flows;
      is_left = also_in left x f.cell f.is_left;
      is_length = f.is_length;
    })

    -- which is no tributary of this one
    pub greatest_other : ((d : Dir) → Trib c d x → ⊥) → GreatestLeft g outlets (also left x) c l
    greatest_other h = record {
      bound = λ d y u i. also_or (is_shorter l (by d y) ≡ false) left x y i
          (λ q. absurd (h d (subst (Trib c d) q u))) (r.bound d y u);
      attained = kept r.attained;
    }

    -- which is one: the longer of the two
    module _ (d : Dir) (u : Trib c d x)
        (one : (e : Dir) → Trib c e x → e ≡ d) where
      pub greatest_longer : is_shorter l (by d x) ≡ true → GreatestLeft g outlets (also left x) c (by d x)
      greatest_longer s = record {
        bound = λ e y v i. also_or (is_shorter (by d x) (by e y) ≡ false) left x y i
            (λ q. rw (one e (subst (Trib c e) q v), q) (irrefl square_cells square_laws (by d x)))
            (λ w. square_laws.trans (by e y) l (by d x) (r.bound e y v w) (square_laws.asym l (by d x) s));
        attained = inr (record { dir = d; cell = x; flows = u; is_left = also_same left x x refl; is_length = refl });
      }

      pub greatest_stays : is_shorter l (by d x) ≡ false → GreatestLeft g outlets (also left x) c l
      greatest_stays s = record {
        bound = λ e y v i. also_or (is_shorter l (by e y) ≡ false) left x y i
            (λ q. rw (one e (subst (Trib c e) q v), q) s) (r.bound e y v);
        attained = kept r.attained;
      }

  -- ALL ARE LEFT: it is the upstream length
  module _ (a : List ℕ) (h : agrees g a ≡ true) where
    pub greatest_all : {left : ℕ → Bool} {c : ℕ} {l : Length} → GreatestLeft g outlets left c l → ground g c ≡ true
        → ((d : Dir) (y : ℕ) → Trib c d y → left y ≡ true) → l ≡ upstream_length g outlets c
    greatest_all {left} {c} {l} r v all = square_same l (upstream_length g outlets c)
        (no_less (upstream_attained g a h outlets c v)) (no_more r.attained)
      where
        no_less : (upstream_length g outlets c ≡ counts 0 0) ⊎ LongestInflow g outlets c
            → is_shorter l (upstream_length g outlets c) ≡ false
        no_less (inl e) = ap (is_shorter l) e ∙ none_shorter l
        no_less (inr f) =
            let s : f.step ≡ opposite (opposite f.step) = sym (opposite_twice f.step) in
            let u : Trib c (opposite f.step) f.cell = record {
              flows = f.flows ∙ ap (λ (d : Dir). some (record { cell = c; step = d })) s;
              not_outlet = f.not_outlet;
            } in
            ap (is_shorter l) (f.is_length ∙ ap (λ (d : Dir). plus_step (upstream_length g outlets f.cell)
            (step_of d)) s)
            ∙ r.bound (opposite f.step) f.cell u (all (opposite f.step) f.cell u)

        no_more : (l ≡ counts 0 0) ⊎ FromLeft g outlets left c l → is_shorter (upstream_length g outlets c) l ≡ false
        no_more (inl e) = ap (is_shorter (upstream_length g outlets c)) e ∙ none_shorter (upstream_length g outlets c)
        no_more (inr f) = ap (is_shorter (upstream_length g outlets c)) f.is_length
            ∙ upstream_bound g a h outlets f.cell (record { cell = c; step = opposite f.dir }) f.flows.flows
            f.flows.not_outlet
