-- From the passes to what filling answers and leaves.
-- Assumes nothing.
use mathlib.Core.Path.{◌≡◌, refl, sym, ap, ◌∙◌, subst}
use mathlib.Core.Bool.{Bool, true, false}
use mathlib.Core.List.{List}
use Prim.Native.Nat.{ℕ, ◌+◌, ◌-◌, ◌*◌, ◌%◌, ◌≤◌, ◌<◌, ◌^◌}
use native.Mathlib.Nat.{mul-le-mul}
use native.Mathlib.Omega.{arith}
use lib.ListN.{length, get_or}
use lib.Seq.{take-length}
use Rattle.lists.specs.Lists.{member}
use Rattle.ground.specs.Grid.{Grid, grid_of, ground, inflows}
use Rattle.ground.specs.Walk.{ends}
use Rattle.ground.specs.Accumulation.{gathered, subaccumulation, subaccumulations}
use Rattle.ground.specs.Subwatershed.{is_outlet}
use Rattle.lists.proofs.Lists.{all_below_lem, below_all}
use Rattle.ground.proofs.Walks.{ends_none}
use Rattle.ground.proofs.Cells.{ground_within, ground_sub, null_sub}
use Rattle.ground.proofs.Ground.{grid_length, grid_at}
use Rattle.filling.specs.Packed.{flag_if}
use Rattle.filling.specs.Filling.{Fillable, flag_of, strip_if, Stripped}
use Rattle.filling.specs.Filling.{next_cut, Looked, cut_free, filled_if}
use Rattle.lists.specs.Slices.{Kept, Cleared, Within}
use Rattle.filling.proofs.Cut.{gathered_cut}
use Rattle.filling.proofs.AllLooked.{settled, settled_word, settled_ends, ends_settled}
use Rattle.filling.proofs.Done.{tally_all, tally_full}
use Rattle.filling.proofs.Flags.{flag_mod, cut_network, cut_null}
use Rattle.filling.proofs.Descents.{word_bounds}
use Rattle.lists.proofs.Kept.{kept_then}
use Rattle.lists.proofs.Overlaid.{front_is, cleared_front}

module _ {rows cols : ℕ} {codes outlets l : List ℕ} (f : Fillable rows cols codes outlets l) where
  abbrev land : Grid
  land = grid_of rows cols codes

  small : rows * cols ≤ 4096 * 4096
  small = mul-le-mul f.grid.sides.rows_small f.grid.sides.cols_small

  pub outlets_within : Within (rows * cols) outlets
  outlets_within j h = ground_within land (get_or outlets j 0) (f.on_ground j h)

  -- ---- all cells are looked at

  module _ (done : ℕ) (p : Looked (grid_of rows cols codes) outlets l (rows * cols) done) where
    word_mod : (x : ℕ) → ground land x ≡ true → get_or l x 0 % 2 ^ 30 ≡ get_or l x 0 - flag_of outlets x
    unfolding Looked
    word_mod x v =
        let b = word_bounds land outlets l p x v in
        flag_mod outlets x (get_or l x 0) (omega (arith, b)) (omega (arith, b, small))

    -- ALL CELLS ARE DONE, so nothing waits
    module _ (d : done ≡ rows * cols) where
      pub settled_free : cut_free (grid_of rows cols codes) outlets ≡ true
      unfolding Looked cut_free
      settled_free = below_all (ends (next_cut land outlets) (rows * cols)) (rows * cols)
          (λ x h. go x (ground land x) refl)
        where
          go : (x : ℕ) (b : Bool) → ground land x ≡ b → ends (next_cut land outlets) (rows * cols) x ≡ true
          go x true v = settled_ends (cut_network land outlets) p
              (λ y u. p.passed_waits y (tally_full p.tally d y (ground_within land y u) u)) x v
          go x false v = ends_none (next_cut land outlets) (rows * cols) x (cut_null land outlets x v)

      words : (x : ℕ) → ground land x ≡ true
          → get_or l x 0 ≡ flag_of outlets x + gathered (inflows land) (is_outlet land outlets) (rows * cols) x
      unfolding Looked
      words x v = settled_word (cut_network land outlets) p
          (λ y u. p.passed_waits y (tally_full p.tally d y (ground_within land y u) u)) x v
          ∙ ap (λ (n : ℕ). flag_of outlets x + n) (gathered_cut (is_outlet land outlets) (inflows land) (rows * cols) x)

      stripped : (b : Bool) (w n : ℕ) → w % 2 ^ 30 ≡ w - flag_if b → w ≡ flag_if b + n → strip_if b w ≡ n
      stripped true w n e g = omega arith
      stripped false w n e g = omega arith

      strip_null : (b : Bool) (w : ℕ) → w ≡ 0 → strip_if b w ≡ 0
      strip_null true w e = omega arith
      strip_null false w e = e

      values : {m : List ℕ} → Stripped (rows * cols) outlets (length outlets) l m → (x : ℕ) → x < rows * cols
          → get_or m x 0 ≡ subaccumulation land outlets x
      unfolding Looked
      values s x h = s.words x ∙ ap (λ (o : List ℕ). strip_if (member x o) (get_or l x 0)) (take-length outlets)
          ∙ go (ground land x) refl
        where
          go : (b : Bool) → ground land x ≡ b → strip_if (member x outlets) (get_or l x 0) ≡ subaccumulation land outlets x
          go true v = stripped (member x outlets) (get_or l x 0)
              (gathered (inflows land) (is_outlet land outlets) (rows * cols) x) (word_mod x v) (words x v)
              ∙ sym (ground_sub land outlets x v)
          go false v = strip_null (member x outlets) (get_or l x 0) (p.null_word x h v) ∙ sym (null_sub land outlets x v)

      pub settled_filled : {old m : List ℕ} → Kept (rows * cols) old l
          → Stripped (rows * cols) outlets (length outlets) l m → m ≡ filled_if (grid_of rows cols codes) outlets true old
      settled_filled {old} {m} k s = front_is (subaccumulations land outlets)
          (omega (arith, long, k.same_length, f.has_words))
          (subst (λ (n : ℕ). Kept n old m) (sym long) (kept_then k s.kept))
          (λ x h. let i : x < rows * cols = omega (arith, long) in
          values s x i ∙ sym (grid_at (subaccumulation land outlets) (rows * cols) x i))
        where
          long : length (subaccumulations land outlets) ≡ rows * cols
          long = grid_length (subaccumulation land outlets) (rows * cols)

    -- SOME CELL IS NOT DONE
    pub waits_ring : (done ≡ rows * cols → ⊥) → cut_free (grid_of rows cols codes) outlets ≡ false
    unfolding Looked cut_free
    waits_ring d = go (cut_free land outlets) refl
      where
        go : (b : Bool) → cut_free land outlets ≡ b → cut_free land outlets ≡ false
        go true e = absurd (d (tally_all p.tally (λ x v. settled (cut_network land outlets) p x v
            (ends_settled (cut_network land outlets) p
            (λ y u. all_below_lem (ends (next_cut land outlets) (rows * cols)) (rows * cols) e y (ground_within land y u)) x
            v))))
        go false e = e

  pub cleared_filled : {old m : List ℕ} → Kept (rows * cols) old l → Cleared (rows * cols) (rows * cols) l m
      → m ≡ filled_if (grid_of rows cols codes) outlets false old
  cleared_filled k c = cleared_front (rows * cols) (omega (arith, k.same_length, f.has_words)) (kept_then k c.kept)
      c.are_zero
