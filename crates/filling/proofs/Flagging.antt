-- One cell more is flagged: the cell that it flows to no longer waits for it.
-- Assumes nothing.
use mathlib.Core.Path.{◌≡◌, refl, sym, ap, ◌∙◌, subst}
use mathlib.Core.Bool.{Bool, true, false, true≢false}
use mathlib.Core.List.{List}
use mathlib.Core.Option.{Option, none, some}
use Prim.Native.Nat.{ℕ, ◌+◌, ◌-◌, ◌*◌, ◌≤◌, ◌<◌, ◌^◌}
use native.Mathlib.Omega.{arith}
use lib.Dec.{eqb}
use borrow.Author.Tests.{eqb-true, eqb-false}
use Rattle.ground.specs.Grid.{Link}
use Rattle.ground.proofs.Network.{Network}
use Rattle.filling.specs.Packed.{one_each, flag_if, waiting, Flagging}
use Rattle.lists.proofs.Counts.{also, also_same, also_other}
use Rattle.filling.proofs.Totals.{total_where}
use Rattle.filling.proofs.Passing.{waiting_hit, waiting_miss}

-- the same cells, told by another test
pub flagging_same : {S : Type 0} {ups : ℕ → List (Link S)} {ground : ℕ → Bool} {cell_count : ℕ} {word : ℕ → ℕ}
    {out out' : ℕ → Bool} → ((c : ℕ) → out c ≡ out' c) → Flagging ups ground cell_count word out
    → Flagging ups ground cell_count word out'
flagging_same {ups = ups} {out = out} {out' = out'} s f = record {
  is_word = λ x v. omega (
    arith,
    f.is_word x v,
    ap flag_if (s x),
    total_where ups out out' one_each one_each s (λ c e. refl) (ups x),
  );
  null_word = f.null_word;
}

module _ {S : Type 0} {next : ℕ → Option (Link S)} {ups : ℕ → List (Link S)} {ground : ℕ → Bool} {cell_count : ℕ}
    (𝓝 : Network next ups ground cell_count) where
  module _ {word : ℕ → ℕ} {out : ℕ → Bool}
      (f : Flagging ups ground cell_count word out) {o : ℕ} where
    -- a cell that is flagged already
    pub flagged_twice : out o ≡ true → Flagging ups ground cell_count word (also out o)
    flagged_twice t = flagging_same (λ c. go c (eqb c o) refl) f
      where
        go : (c : ℕ) (b : Bool) → eqb c o ≡ b → out c ≡ also out o c
        go c true q = ap out (eqb-true c o q) ∙ t ∙ sym (also_same out o c (eqb-true c o q))
        go c false q = sym (also_other out o c (eqb-false c o q))

    module _ (fresh : out o ≡ false) (solid : ground o ≡ true) {word₁ : ℕ → ℕ} (there : word₁ o ≡ word o + 2 ^ 30)
        (else : (x : ℕ) → (x ≡ o → ⊥) → word₁ x ≡ word x) where
      -- its flag is set, and who waits is as it was
      flag_set : (x : ℕ) → ground x ≡ true → word₁ x ≡ flag_if (also out o x) + (2 ^ 25 * waiting ups out x + 1)
      flag_set x v = go (eqb x o) refl
        where
          go : (b : Bool) → eqb x o ≡ b → word₁ x ≡ flag_if (also out o x) + (2 ^ 25 * waiting ups out x + 1)
          go true q = subst (λ (y : ℕ). word₁ y ≡ flag_if (also out o y) + (2 ^ 25 * waiting ups out y + 1))
              (sym (eqb-true x o q))
              (omega (arith, there, f.is_word o solid, ap flag_if fresh, ap flag_if (also_same out o o refl)))
          go false q =
              let n = eqb-false x o q in
              omega (arith, else x n, f.is_word x v, ap flag_if (also_other out o x n))

      null_kept : (x : ℕ) → x < cell_count → ground x ≡ false → word₁ x ≡ 0
      null_kept x b u = else x (λ q. true≢false (sym solid ∙ ap ground (sym q) ∙ u)) ∙ f.null_word x b u

      -- IT FLOWS NOWHERE
      pub flagged_end : next o ≡ none → Flagging ups ground cell_count word₁ (also out o)
      flagged_end e = record {
        is_word = λ x v. omega (
          arith,
          flag_set x v,
          waiting_miss 𝓝 out o fresh x (λ h q r. let z : ◌≡◌ {A = ℕ} 0 1 = cc in omega arith),
        );
        null_word = null_kept;
      }

      -- IT FLOWS TO A CELL, which waited for it
      module _ {h : Link S} (e : next o ≡ some h) where
        pub flagged_room : 2 ^ 25 ≤ word₁ h.cell
        flagged_room = omega (arith, flag_set h.cell (𝓝.lands o h e), waiting_hit 𝓝 out o fresh h e)

        pub flagged_below : {word₂ : ℕ → ℕ} → word₂ h.cell ≡ word₁ h.cell - 2 ^ 25
            → ((x : ℕ) → (x ≡ h.cell → ⊥) → word₂ x ≡ word₁ x) → Flagging ups ground cell_count word₂ (also out o)
        flagged_below {word₂} at rest = record {
          is_word = λ x v. go x v (eqb x h.cell) refl;
          null_word = λ x b u. rest x (λ q. true≢false (sym (𝓝.lands o h e) ∙ ap ground (sym q) ∙ u)) ∙ null_kept x b
              u;
        }
          where
            Goal : ℕ → Type 0
            Goal x = word₂ x ≡ flag_if (also out o x) + (2 ^ 25 * waiting ups (also out o) x + 1)

            miss : (x : ℕ) → (x ≡ h.cell → ⊥) → (k : Link S) → next o ≡ some k → k.cell ≡ x → ⊥
            miss x n k q r = let s : h ≡ k = cc in n (sym r ∙ sym (ap (λ (l : Link S). l.cell) s))

            go : (x : ℕ) → ground x ≡ true → (b : Bool) → eqb x h.cell ≡ b → Goal x
            go x v true q = subst Goal (sym (eqb-true x h.cell q))
                (omega (arith, at, flag_set h.cell (𝓝.lands o h e), waiting_hit 𝓝 out o fresh h e))
            go x v false q =
                let n = eqb-false x h.cell q in
                omega (arith, rest x n, flag_set x v, waiting_miss 𝓝 out o fresh x (miss x n))
