-- The next outlet is flagged, in the words of the lent grid.
-- Assumes nothing.
use mathlib.Core.Path.{◌≡◌, refl, sym, ap, ◌∙◌}
use mathlib.Core.Bool.{Bool, true, false, ◌||◌}
use mathlib.Core.List.{List}
use mathlib.Core.Option.{none}
use Prim.Native.Nat.{ℕ, suc, ◌+◌, ◌-◌, ◌*◌, ◌≤◌, ◌<◌, ◌^◌}
use native.Mathlib.Numerals.{add-one}
use native.Mathlib.Omega.{arith}
use lib.ListN.{length, get_or, set, take, length-set}
use lib.Seq.{get_or-set_same, get_or-set_other}
use lib.Dec.{eqb}
use borrow.Author.Tests.{eqb-true, eqb-false, eq-eqb, ne_eqb}
use Rattle.lists.specs.Lists.{member}
use Rattle.ground.specs.Grid.{Grid, grid_of, ground, next, inflows}
use Rattle.ground.proofs.Cells.{ground_within}
use Rattle.ground.proofs.GridNetwork.{network}
use Rattle.moves.specs.Walks.{Flows}
use Rattle.moves.proofs.Spots.{size}
use Rattle.filling.specs.Packed.{flag_if, waiting, Flagging}
use Rattle.filling.specs.Filling.{Fillable, Flagged}
use Rattle.lists.proofs.Counts.{also}
use Rattle.filling.proofs.Totals.{ones_few}
use Rattle.filling.proofs.Flags.{inflows_few}
use Rattle.lists.proofs.Members.{member_more}
use Rattle.filling.proofs.Flagging.{flagging_same, flagged_twice, flagged_end, flagged_room, flagged_below}
use Rattle.filling.proofs.Outlets.{flows_ground}

-- the outlet at place j comes next
pub record Next (rows cols : ℕ) (codes outlets l : List ℕ) (j o : ℕ) : Type 0 where
  pub fillable : Fillable rows cols codes outlets l
  pub outlet_is : o ≡ get_or outlets j 0
  pub in_list : j < length outlets
  pub flagged : Flagged (grid_of rows cols codes) outlets l j

pub the_next : {rows cols : ℕ} {codes outlets l : List ℕ} {j o : ℕ}
    → Fillable rows cols codes outlets l × (j < length outlets) → Flagged (grid_of rows cols codes) outlets l j
    → o ≡ get_or outlets j 0 → Next rows cols codes outlets l j o
the_next f g e = record { fillable = f.0; outlet_is = e; in_list = f.1; flagged = g }

module _ {rows cols : ℕ} {codes outlets l : List ℕ} {j o : ℕ} (n : Next rows cols codes outlets l j o) where
  abbrev land : Grid
  land = grid_of rows cols codes

  abbrev out : ℕ → Bool
  out c = member c (take j outlets)

  one_more : (m : List ℕ) → Flagging (inflows land) (ground land) (rows * cols) (λ x. get_or m x 0) (also out o)
      → Flagged land outlets m (j + 1)
  unfolding Flagged
  one_more m q = rw (add-one j) (flagging_same (λ c. same c (eqb c o) refl) q)
    where
      same : (c : ℕ) (b : Bool) → eqb c o ≡ b → also out o c ≡ member c (take (suc j) outlets)
      same c true e = ap (λ (b : Bool). out c || b) (e ∙ sym (eq-eqb (get_or outlets j 0) c (sym s')))
          ∙ sym (member_more outlets j n.in_list c)
        where
          s' : c ≡ get_or outlets j 0
          s' = eqb-true c o e ∙ n.outlet_is
      same c false e = ap (λ (b : Bool). out c || b)
          (e ∙ sym (ne_eqb (get_or outlets j 0) c (λ q. eqb-false c o e (sym q ∙ sym n.outlet_is))))
          ∙ sym (member_more outlets j n.in_list c)

  o_ground : ground land o ≡ true
  o_ground = ap (ground land) n.outlet_is ∙ n.fillable.on_ground j n.in_list

  pub o_inside : o < rows * cols
  o_inside = ground_within land o o_ground

  pub o_room : o < length l
  o_room = omega (arith, o_inside, n.fillable.has_words)

  word_is : get_or l o 0 ≡ flag_if (out o) + (2 ^ 25 * waiting (inflows land) out o + 1)
  unfolding Flagged
  word_is = n.flagged.is_word o o_ground

  few : (x : ℕ) → waiting (inflows land) out x ≤ 8
  few x = omega (arith, ones_few (inflows land) out (inflows land x), inflows_few land x)

  by_flag : (b : Bool) (k : ℕ) → get_or l o 0 ≡ flag_if b + (2 ^ 25 * k + 1) → k ≤ 8
      → (2 ^ 30 ≤ get_or l o 0 → b ≡ true) × (get_or l o 0 < 2 ^ 30 → b ≡ false)
  by_flag true k e h = (λ q. refl, λ q. absurd (omega arith))
  by_flag false k e h = (λ q. absurd (omega arith), λ q. refl)

  pub again : 2 ^ 30 ≤ get_or l o 0 → Flagged (grid_of rows cols codes) outlets l (j + 1)
  unfolding Flagged
  again q = one_more l (flagged_twice (network land) n.flagged
      ((by_flag (out o) (waiting (inflows land) out o) word_is (few o)).0 q))

  module _ (low : get_or l o 0 < 2 ^ 30) where
    fresh : out o ≡ false
    fresh = (by_flag (out o) (waiting (inflows land) out o) word_is (few o)).1 low

    abbrev with_flag : List ℕ
    with_flag = set l o (get_or l o 0 + 2 ^ 30)

    pub at_end : next (grid_of rows cols codes) o ≡ none
        → Flagged (grid_of rows cols codes) outlets (set l o (get_or l o 0 + 2 ^ 30)) (j + 1)
    unfolding Flagged
    at_end e = one_more with_flag (flagged_end (network land) n.flagged fresh o_ground
        (get_or-set_same l o (get_or l o 0 + 2 ^ 30) 0 o_room)
        (λ x d. get_or-set_other l o x (get_or l o 0 + 2 ^ 30) 0 d) e)

    module _ {z : ℕ} (to : Flows (grid_of rows cols codes) o z) where
      pub z_inside : (z < rows * cols) × (rows * cols ≤ 4096 * 4096)
      z_inside = (ground_within land z (flows_ground land o z to), size n.fillable.grid.sides)

      pub z_room : z < length (set l o (get_or l o 0 + 2 ^ 30))
      z_room = omega (
        arith,
        z_inside,
        n.fillable.has_words,
        length-set l o (get_or l o 0 + 2 ^ 30),
      )

      pub z_waits : 2 ^ 25 ≤ get_or (set l o (get_or l o 0 + 2 ^ 30)) z 0
      unfolding Flagged
      z_waits = flagged_room (network land) n.flagged fresh o_ground
          (get_or-set_same l o (get_or l o 0 + 2 ^ 30) 0 o_room)
          (λ x d. get_or-set_other l o x (get_or l o 0 + 2 ^ 30) 0 d) to.1

      abbrev less : ℕ
      less = get_or (set l o (get_or l o 0 + 2 ^ 30)) z 0 - 2 ^ 25

      pub waits_less : Flagged (grid_of rows cols codes) outlets
          (set (set l o (get_or l o 0 + 2 ^ 30)) z (get_or (set l o (get_or l o 0 + 2 ^ 30)) z 0 - 2 ^ 25)) (j + 1)
      unfolding Flagged
      waits_less = one_more (set with_flag z less) (flagged_below (network land) n.flagged fresh o_ground
          (get_or-set_same l o (get_or l o 0 + 2 ^ 30) 0 o_room) (λ x d. get_or-set_other l o x (get_or l o 0 + 2 ^ 30) 0 d)
          to.1 (get_or-set_same with_flag z less 0 z_room) (λ x d. get_or-set_other with_flag z x less 0 d))
