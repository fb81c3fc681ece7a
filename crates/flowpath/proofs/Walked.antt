-- The walk to its first outlet, cell by cell: whether it comes to an outlet, its cells, and that they are a flow path.
-- Assumes nothing.
use mathlib.Core.Path.{◌≡◌, refl, sym, ap, ◌∙◌}
use mathlib.Core.Bool.{Bool, true, false}
use mathlib.Core.List.{List, [], ◌∷◌}
use mathlib.Core.Option.{Option, none, some}
use Prim.Native.Nat.{ℕ, zero, suc, ◌-◌, ◌<◌}
use native.Mathlib.Numerals.{unary_clauses}
use native.Mathlib.Omega.{arith}
use lib.ListN.{length, get_or}
use lib.Dec.{eqb}
use Rattle.lengths.specs.Lengths.{Lengths}
use Rattle.ground.specs.Grid.{Link}
use Rattle.ground.specs.Walk.{At}
use Rattle.ground.specs.Subwatershed.{walked, longer, first_outlet, belongs}
use Rattle.ground.proofs.Walks.{walked_out, walked_next}
use Rattle.ground.proofs.Network.{first_out, first_next, first_end, first_induct}
use Rattle.ground.proofs.Subwatersheds.{true_belongs}
use Rattle.flowpath.specs.FlowPath.{FlowPath}

module _ {S : Type 0} (next : ℕ → Option (Link S)) (outlet : ℕ → Bool) where
  -- a flow path of one cell,
  path_one : (c : ℕ) → FlowPath next outlet c c (c ∷ [])
  path_one c = record {
    some_cell = omega arith;
    begins = refl;
    flows = λ k h. absurd (omega (arith, h));
    not_outlet = λ k h. absurd (omega (arith, h));
    arrives = refl;
  }

  -- and of one more before it that flows to its start, and is no outlet
  path_more : (o c : ℕ) (h : Link S) (cells : List ℕ) → outlet c ≡ false → next c ≡ some h
      → FlowPath next outlet o h.cell cells → FlowPath next outlet o c (c ∷ cells)
  path_more o c h cells v e p = record {
    some_cell = omega arith;
    begins = refl;
    flows = flows_on;
    not_outlet = none_on;
    arrives = ends cells p.some_cell p.arrives;
  }
    where
      flows_on : (k : ℕ) → suc k < length (c ∷ cells)
          → (s : S) × (next (get_or (c ∷ cells) k 0) ≡ some (record { cell = get_or (c ∷ cells) (suc k) 0; step = s }))
      flows_on zero i = (h.step, e ∙ ap (λ (x : ℕ). some (record { cell = x; step = h.step })) (sym p.begins))
      flows_on (suc k) i = p.flows k (omega arith)

      none_on : (k : ℕ) → suc k < length (c ∷ cells) → outlet (get_or (c ∷ cells) k 0) ≡ false
      none_on zero i = v
      none_on (suc k) i = p.not_outlet k (omega arith)

      ends : (xs : List ℕ) → 0 < length xs → get_or xs (length xs - 1) 0 ≡ o → get_or (c ∷ xs) (length (c ∷ xs) - 1) 0 ≡ o
      ends [] i q = absurd (omega arith)
      ends (x ∷ xs) i q = simp unary_clauses (simp unary_clauses at q)

  module _ (𝓛 : Lengths S) where
    -- whether the walk comes to an outlet first: at that one, or another, it does or not,
    pub belongs_out : (n o c : ℕ) → outlet c ≡ true → belongs 𝓛 next outlet n o c ≡ eqb c o
    unfolding belongs
    belongs_out n o c e = rw (first_out 𝓛 next outlet n c e, belongs)

    module _ (c : ℕ) (v : outlet c ≡ false) where
      -- from another cell as from the next,
      pub belongs_next : (n : ℕ) (h : Link S) → next c ≡ some h → (o : ℕ)
          → belongs 𝓛 next outlet (suc n) o c ≡ belongs 𝓛 next outlet n o h.cell
      unfolding belongs
      belongs_next n h e o = go (first_outlet 𝓛 next outlet n h.cell) refl
        where
          first : first_outlet 𝓛 next outlet (suc n) c ≡ longer 𝓛 h.step (first_outlet 𝓛 next outlet n h.cell)
          first = first_next 𝓛 next outlet n c h v e

          go : (r : Option (At 𝓛.Len)) → first_outlet 𝓛 next outlet n h.cell ≡ r
              → belongs 𝓛 next outlet (suc n) o c ≡ belongs 𝓛 next outlet n o h.cell
          go none f = rw (first, f, belongs)
          go (some a) f = rw (first, f, belongs)

      -- and at its end not
      pub belongs_end : (n o : ℕ) → next c ≡ none → belongs 𝓛 next outlet n o c ≡ false
      unfolding belongs
      belongs_end n o e = rw (first_end 𝓛 next outlet n c v e, belongs)

    -- THE WALK TO AN OUTLET IS A FLOW PATH
    pub flow_path : (n o c : ℕ) → belongs 𝓛 next outlet n o c ≡ true → FlowPath next outlet o c (walked next outlet n c)
    flow_path n o c b = let r = true_belongs 𝓛 next outlet n o c b in
        first_induct 𝓛 next outlet (λ m x a. FlowPath next outlet a.cell x (walked next outlet m x))
        (λ m x v. rw (walked_out next outlet m x v) (path_one x))
        (λ m x h a v e f p. rw (walked_next next outlet x v m h e)
        (path_more a.cell x h (walked next outlet m h.cell) v e p))
        n c (record { cell = o; len = r.0 }) r.1
