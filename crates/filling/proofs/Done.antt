-- How many cells are done: those that are passed down, and null cells that are looked at.
-- Assumes nothing.
use mathlib.Core.Path.{◌≡◌, refl, sym, ap, ◌∙◌}
use mathlib.Core.Bool.{Bool, true, false, not, ◌&&◌, ◌||◌, or-true, or-false, true≢false}
use Prim.Native.Nat.{ℕ, zero, suc, ◌≤◌, ◌<◌}
use native.Mathlib.Omega.{arith}
use lib.Dec.{eqb, ltb}
use borrow.Author.Tests.{eqb-true, eqb-false, ltb-true, ltb-false, lt-ltb, le-ltb}
use Rattle.lists.specs.Lists.{how_many}
use Rattle.lists.proofs.Counts.{also, also_same, also_other, many_le, many_all, many_full, many_same, many_more}
use Rattle.filling.specs.Packed.{is_done, Tally}

-- one cell more is before suc n
less_suc : (n c : ℕ) → (c ≡ n → ⊥) → ltb c (suc n) ≡ ltb c n
less_suc n c f = go (ltb c n) refl
  where
    least : n ≤ c → suc n ≤ c
    least h = omega arith

    go : (b : Bool) → ltb c n ≡ b → ltb c (suc n) ≡ ltb c n
    go true q = lt-ltb c (suc n) (omega (arith, ltb-true c n q)) ∙ sym q
    go false q = le-ltb c (suc n) (least (ltb-false c n q)) ∙ sym q

and-false : (b : Bool) → (b && false) ≡ false
and-false true = refl
and-false false = refl

module _ {ground : ℕ → Bool} {cell_count : ℕ} where
  -- nothing is done
  pub tally_none : Tally ground cell_count (λ x. false) 0 0
  unfolding how_many
  tally_none = record { only_ground = λ x e. absurd (true≢false (sym e)); done_is = none cell_count }
    where
      none : (n : ℕ) → how_many (is_done ground (λ x. false) 0) n ≡ 0
      none zero = refl
      none (suc n) = rw (le-ltb n 0 (omega arith)) (omega (arith, none n))

  module _ {passed : ℕ → Bool} {looked done : ℕ} (t : Tally ground cell_count passed looked done) where
    pub tally_le : done ≤ cell_count
    tally_le = omega (arith, t.done_is, many_le (is_done ground passed looked) cell_count)

    -- a cell of ground is looked at, or a null cell
    other : (x : ℕ) → (x ≡ looked → ⊥) → is_done ground passed (suc looked) x ≡ is_done ground passed looked x
    other x n = ap (λ (b : Bool). passed x || (b && not (ground x))) (less_suc looked x n)

    pub tally_ground : ground looked ≡ true → Tally ground cell_count passed (suc looked) done
    tally_ground v = record {
      only_ground = t.only_ground;
      done_is = many_same (is_done ground passed looked) (is_done ground passed (suc looked)) cell_count
          (λ x l. go x (eqb x looked) refl) ∙ t.done_is;
    }
      where
        here : is_done ground passed (suc looked) looked ≡ is_done ground passed looked looked
        here = rw (v, lt-ltb looked (suc looked) (omega arith), le-ltb looked looked (omega arith))

        go : (x : ℕ) (b : Bool) → eqb x looked ≡ b
            → is_done ground passed (suc looked) x ≡ is_done ground passed looked x
        go x true q = rw (eqb-true x looked q) here
        go x false q = other x (eqb-false x looked q)

    pub tally_null : looked < cell_count → ground looked ≡ false → Tally ground cell_count passed (suc looked) (suc done)
    tally_null h v = record {
      only_ground = t.only_ground;
      done_is = many_more (is_done ground passed looked) (is_done ground passed (suc looked)) cell_count looked h
          (rw (fresh, le-ltb looked looked (omega arith))) (rw (v, lt-ltb looked (suc looked) (omega arith))
          (or-true (passed looked))) other ∙ ap suc t.done_is;
    }
      where
        fresh : passed looked ≡ false
        fresh = go (passed looked) refl
          where
            go : (b : Bool) → passed looked ≡ b → passed looked ≡ false
            go true q = absurd (true≢false (sym (t.only_ground looked q) ∙ v))
            go false q = q

    -- a cell is passed down
    pub tally_passed : {y : ℕ} → y < cell_count → ground y ≡ true → passed y ≡ false
        → Tally ground cell_count (also passed y) looked (suc done)
    tally_passed {y} h v fresh = record {
      only_ground = λ x e. go x e (eqb x y) refl;
      done_is = many_more (is_done ground passed looked) (is_done ground (also passed y) looked) cell_count y h
          (rw (fresh, v) (and-false (ltb y looked)))
          (ap (λ (b : Bool). b || (ltb y looked && not (ground y))) (also_same passed y y refl))
          (λ x n. ap (λ (b : Bool). b || (ltb x looked && not (ground x))) (also_other passed y x n))
          ∙ ap suc t.done_is;
    }
      where
        go : (x : ℕ) → also passed y x ≡ true → (b : Bool) → eqb x y ≡ b → ground x ≡ true
        go x e true q = ap ground (eqb-true x y q) ∙ v
        go x e false q = t.only_ground x (sym (also_other passed y x (eqb-false x y q)) ∙ e)

  -- when every cell is looked at: all cells are done exactly if every cell of ground is passed down
  module _ {passed : ℕ → Bool} {done : ℕ} (t : Tally ground cell_count passed cell_count done) where
    pub tally_all : ((x : ℕ) → ground x ≡ true → passed x ≡ true) → done ≡ cell_count
    tally_all h = sym t.done_is ∙ many_all (is_done ground passed cell_count) cell_count (λ x l. go x l (ground x) refl)
      where
        go : (x : ℕ) → x < cell_count → (b : Bool) → ground x ≡ b → is_done ground passed cell_count x ≡ true
        go x l true v = rw (h x v)
        go x l false v = rw (v, lt-ltb x cell_count l) (or-true (passed x))

    pub tally_full : done ≡ cell_count → (x : ℕ) → x < cell_count → ground x ≡ true → passed x ≡ true
    tally_full e x l v =
        let d = many_full (is_done ground passed cell_count) cell_count (t.done_is ∙ e) x l in
        sym (or-false (passed x)) ∙ sym (ap (λ (b : Bool). passed x || b) (and-false (ltb x cell_count))) ∙ rw v at d
