-- When every cell has been looked at: nothing waits exactly where every walk ends, and then the words hold what is
-- accumulated.
-- Assumes nothing.
use mathlib.Core.Path.{◌≡◌, refl, ap, ◌∙◌}
use mathlib.Core.Bool.{Bool, true, not}
use mathlib.Core.List.{List, [], ◌∷◌}
use mathlib.Core.Option.{Option, some}
use Prim.Native.Nat.{ℕ, zero, suc, ◌+◌, ◌≤◌}
use native.Mathlib.Omega.{arith}
use Rattle.lists.specs.Lists.{Every}
use Rattle.ground.specs.Grid.{Link}
use Rattle.ground.specs.Walk.{ends}
use Rattle.ground.specs.Accumulation.{total, gathered}
use Rattle.lists.proofs.Lists.{every_map}
use Rattle.ground.proofs.Network.{Network}
use Rattle.ground.proofs.Agreement.{Agrees, no_outlet, agrees_is, fewer_next}
use Rattle.ground.proofs.Endings.{free_agrees, agrees_free}
use Rattle.filling.specs.Packed.{waiting, Packed}
use Rattle.filling.proofs.Totals.{ones_none}

module _ {S : Type 0} {next : ℕ → Option (Link S)} {ups : ℕ → List (Link S)} {ground : ℕ → Bool} {cell_count : ℕ}
    (𝓝 : Network next ups ground cell_count) {flag word : ℕ → ℕ} {done : ℕ}
    (p : Packed ups ground cell_count flag word cell_count no_outlet done) where
  -- all headwaters were looked at, so what waits for nothing is passed down
  pub settled : (x : ℕ) → ground x ≡ true → waiting ups p.passed x ≡ 0 → p.passed x ≡ true
  settled x v l = p.is_passed x v l refl (λ h q. omega (arith, 𝓝.bounded x v))

  -- what holds of ground holds of the inflows
  every_up : (P : ℕ → Type 0) (x : ℕ)
      → ((k : Link S) → next k.cell ≡ some (record { cell = x; step = k.step }) → ground k.cell ≡ true
      → P k.cell)
      → Every (λ k. P k.cell) (ups x)
  every_up P x f = every_map (λ k. next k.cell ≡ some (record { cell = x; step = k.step })) (λ k. P k.cell)
      (λ k e. f k e (𝓝.solid k.cell (record { cell = x; step = k.step }) e)) (ups x) (𝓝.sound x)

  -- WHERE NOTHING WAITS the partial sums are the accumulation
  module _ (none : (x : ℕ) → ground x ≡ true → waiting ups p.passed x ≡ 0) where
    partial_agrees : Agrees ups ground p.partial
    unfolding Agrees
    partial_agrees x v = p.is_partial x v
        ∙ ap suc (go (ups x) (every_up (λ c. p.passed c ≡ true) x (λ k e u. settled k.cell u (none k.cell u))))
      where
        go : (ks : List (Link S)) → Every (λ k. p.passed k.cell ≡ true) ks
            → total ups (λ c. not (p.passed c)) p.partial ks ≡ total ups no_outlet p.partial ks
        go [] s = refl
        go (k ∷ ks) s = rw (ap not s.0, total) (ap (λ (n : ℕ). p.partial k.cell + n) (go ks s.1))

    pub settled_word : (x : ℕ) → ground x ≡ true → word x ≡ flag x + gathered ups no_outlet cell_count x
    settled_word x v = omega (
      arith,
      p.is_word x v,
      none x v,
      agrees_is next ups ground cell_count 𝓝 p.partial partial_agrees x v,
    )

    pub settled_ends : (x : ℕ) → ground x ≡ true → ends next cell_count x ≡ true
    settled_ends = agrees_free next ups ground cell_count 𝓝 p.partial partial_agrees

  -- WHERE EVERY WALK ENDS nothing waits: there is an accumulation, it falls upward, and so by induction on it
  module _ (A : ℕ → ℕ) (agrees : Agrees ups ground A) where
    nothing_waits : (n x : ℕ) → ground x ≡ true → A x ≤ n → waiting ups p.passed x ≡ 0
    unfolding Agrees
    nothing_waits zero x v h = absurd (omega (arith, agrees x v))
    nothing_waits (suc n) x v h = ones_none ups p.passed (ups x) (every_up (λ c. p.passed c ≡ true) x
        (λ k e u. settled k.cell u (nothing_waits n k.cell u (omega (
          arith,
          fewer_next next ups ground cell_count 𝓝 A agrees k.cell (record { cell = x; step = k.step }) e,
        )))))

  pub ends_settled : ((x : ℕ) → ground x ≡ true → ends next cell_count x ≡ true)
      → (x : ℕ) → ground x ≡ true → waiting ups p.passed x ≡ 0
  ends_settled free x v = nothing_waits (gathered ups no_outlet cell_count) (free_agrees next ups ground cell_count 𝓝 free)
      (gathered ups no_outlet cell_count x) x v (omega arith)
