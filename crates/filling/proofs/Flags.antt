-- The network of a grid cut at its outlets, and the flags of the outlets.
-- Assumes nothing.
use mathlib.Core.Path.{◌≡◌, refl, sym, ap, ◌∙◌}
use mathlib.Core.Bool.{Bool, true, false, true≢false}
use mathlib.Core.List.{List}
use mathlib.Core.Option.{Option, none, some}
use Prim.Native.Nat.{ℕ, ◌+◌, ◌-◌, ◌%◌, ◌≤◌, ◌<◌, ◌^◌}
use native.Mathlib.Omega.{arith}
use lib.ListN.{length}
use Rattle.lists.specs.Lists.{member}
use Rattle.ground.specs.Compass.{Dir, dirs}
use Rattle.ground.specs.Grid.{Grid, Link, cell_count, ground, next, inflows_from, inflows}
use Rattle.ground.specs.Accumulation.{total}
use Rattle.ground.specs.Subwatershed.{is_outlet}
use Rattle.ground.proofs.Network.{Network}
use Rattle.ground.proofs.Agreement.{no_outlet}
use Rattle.ground.proofs.Cells.{ground_inflows, null_inflows}
use Rattle.ground.proofs.GridNetwork.{network, inflows_induct}
use Rattle.filling.specs.Packed.{one_each, flag_if}
use Rattle.filling.specs.Filling.{flag_of, next_cut, ups_cut}
use Rattle.filling.proofs.Totals.{ones_few}
use Rattle.filling.proofs.Cut.{cut, cut_step, next_cut_lem, next_uncut, total_uncut}

-- ---- flags

pub flag_le : (outlets : List ℕ) (x : ℕ) → flag_of outlets x ≤ 2 ^ 30
flag_le outlets x = go (member x outlets)
  where
    go : (b : Bool) → flag_if b ≤ 2 ^ 30
    go true = omega arith
    go false = omega arith

-- a word without its flag
pub flag_mod : (outlets : List ℕ) (x w : ℕ) → flag_of outlets x ≤ w → w < flag_of outlets x + 2 ^ 30
    → w % 2 ^ 30 ≡ w - flag_of outlets x
flag_mod outlets x w = go (member x outlets)
  where
    go : (b : Bool) → flag_if b ≤ w → w < flag_if b + 2 ^ 30 → w % 2 ^ 30 ≡ w - flag_if b
    go true h i = omega arith
    go false h i = omega arith

-- ---- the network cut at the outlets

-- no cell has more than eight inflows
pub inflows_few : (g : Grid) (x : ℕ) → total (inflows g) no_outlet one_each (inflows g x) ≤ 8
inflows_few g x = go (ground g x) refl
  where
    from : (ds : List Dir) → total (inflows g) no_outlet one_each (inflows_from g ds x) ≤ length ds
    from = inflows_induct g x (λ ds ks. total (inflows g) no_outlet one_each ks ≤ length ds) (omega arith)
        (λ d ds ks n ih. omega arith) (λ d ds ks y n f ih. omega arith) (λ d ds ks y n f ih. omega arith)

    go : (b : Bool) → ground g x ≡ b → total (inflows g) no_outlet one_each (inflows g x) ≤ 8
    go true v = rw (ground_inflows g x v) (from dirs)
    go false v = rw (null_inflows g x v) (omega arith)

module _ (g : Grid) (outlets : List ℕ) where
  pub cut_network : Network (next_cut g outlets) (ups_cut g outlets) (ground g) (cell_count g)
  cut_network = cut (is_outlet g outlets) (network g)

  pub cut_few : (skip : ℕ → Bool) (x : ℕ) → total (ups_cut g outlets) skip one_each (ups_cut g outlets x) ≤ 8
  cut_few skip x = omega (
    arith,
    ones_few (ups_cut g outlets) skip (ups_cut g outlets x),
    total_uncut (is_outlet g outlets) (inflows g) (ups_cut g outlets) one_each (inflows g x),
    ones_few (inflows g) (is_outlet g outlets) (inflows g x),
    inflows_few g x,
  )

  -- a flagged cell flows nowhere, and one that is not flagged flows where it did
  pub cut_flagged : (x : ℕ) → 0 < flag_of outlets x → next_cut g outlets x ≡ none
  cut_flagged x h = next_cut_lem (is_outlet g outlets) (next g) x (go (member x outlets) h)
    where
      go : (b : Bool) → 0 < flag_if b → b ≡ true
      go true k = refl
      go false k = absurd (omega arith)

  pub cut_plain : (x : ℕ) → flag_of outlets x < 2 ^ 30 → next_cut g outlets x ≡ next g x
  cut_plain x h = next_uncut (is_outlet g outlets) (next g) x (go (member x outlets) h)
    where
      go : (b : Bool) → flag_if b < 2 ^ 30 → b ≡ false
      go true k = absurd (omega arith)
      go false k = refl

  pub plain : (y : ℕ) (h : Link Dir) → next_cut g outlets y ≡ some h → flag_of outlets y ≡ 0
  plain y h e = ap flag_if (cut_step (is_outlet g outlets) (next g) y h e).0

  -- where the walk ends it ends in the cut network, and nothing flows from a null cell
  pub cut_end : (x : ℕ) → next g x ≡ none → next_cut g outlets x ≡ none
  cut_end x e = go (next_cut g outlets x) refl
    where
      go : (o : Option (Link Dir)) → next_cut g outlets x ≡ o → next_cut g outlets x ≡ none
      go none f = f
      go (some h) f = let q = cut_step (is_outlet g outlets) (next g) x h f in
          let z : ◌≡◌ {A = ℕ} 0 1 = cc in absurd (omega arith)

  pub cut_null : (x : ℕ) → ground g x ≡ false → next_cut g outlets x ≡ none
  cut_null x v = go (next_cut g outlets x) refl
    where
      go : (o : Option (Link Dir)) → next_cut g outlets x ≡ o → next_cut g outlets x ≡ none
      go none e = e
      go (some h) e = absurd (true≢false (sym (cut_network.solid x h e) ∙ v))
