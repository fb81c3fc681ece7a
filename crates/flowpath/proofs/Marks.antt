-- The mark: how far a walk goes before its accumulation comes up to that of another outlet.
-- Assumes nothing.
use mathlib.Core.Path.{◌≡◌, refl, ap}
use mathlib.Core.Bool.{Bool, true, false}
use mathlib.Core.List.{List}
use Prim.Native.Nat.{ℕ, ◌≤◌, ◌<◌}
use native.Mathlib.Omega.{arith}
use lib.ListN.{length, get_or}
use Rattle.lists.specs.Lists.{member}
use Rattle.lists.proofs.Members.{position_of}
use Rattle.flowpath.specs.Measuring.{NoneBetween}

module _ {accumulation outlets : List ℕ} where
  -- BELOW THE MARK there is no outlet
  pub no_outlet_below : {mark : ℕ} (cell : ℕ)
      → NoneBetween (length outlets) accumulation outlets (get_or accumulation cell 0) mark
      → get_or accumulation cell 0 < mark → member cell outlets ≡ false
  no_outlet_below cell none h = go (member cell outlets) refl
    where
      go : (b : Bool) → member cell outlets ≡ b → b ≡ false
      go true e =
          let p = position_of cell outlets e in
          let v : get_or accumulation (get_or outlets p.at 0) 0 ≡ get_or accumulation cell 0
          = ap (λ (x : ℕ). get_or accumulation x 0) p.holds in
          absurd (omega (arith, v, none.below p.at p.inside (omega (arith, v, h))))
      go false e = refl

  -- a higher value has none either
  pub none_higher : {n value mark : ℕ} (higher : ℕ) → value ≤ higher
      → NoneBetween n accumulation outlets value mark → NoneBetween n accumulation outlets higher mark
  none_higher higher h none = record { below = λ k i b. omega (arith, h, none.below k i b) }
