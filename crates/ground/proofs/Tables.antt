-- The facts of a table: a code gives back its direction, and a code of no direction gives none.
-- Assumes nothing.
use mathlib.Core.Path.{◌≡◌, refl, sym, ap, ◌∙◌}
use mathlib.Core.Bool.{Bool, true, false}
use mathlib.Core.Logic.{inl, inr}
use mathlib.Core.List.{List, [], ◌∷◌, map}
use mathlib.Core.Option.{none, some}
use Prim.Native.Nat.{ℕ}
use native.Mathlib.Omega.{arith}
use lib.Dec.{eqb}
use borrow.Author.Tests.{eqb-true, eq-eqb, ne_eqb}
use Rattle.lists.specs.Lists.{In, Sorted}
use Rattle.lists.proofs.Lists.{every_in, in_map, sorted_right, sorted_across}
use Rattle.lists.proofs.Members.{different_sorted}
use Rattle.ground.specs.Compass.{Dir, E, SE, S, SW, W, NW, N, NE, dirs}
use Rattle.ground.specs.Tables.{Table, undirected, codes_of, find_dir, dir_of}

pub all_dirs : (d : Dir) → In d dirs
all_dirs E = inl refl
all_dirs SE = inr (inl refl)
all_dirs S = inr (inr (inl refl))
all_dirs SW = inr (inr (inr (inl refl)))
all_dirs W = inr (inr (inr (inr (inl refl))))
all_dirs NW = inr (inr (inr (inr (inr (inl refl)))))
all_dirs N = inr (inr (inr (inr (inr (inr (inl refl))))))
all_dirs NE = inr (inr (inr (inr (inr (inr (inr (inl refl)))))))

-- THE FACTS that the library uses of a table
pub record TableFacts (t : Table) : Type 0 where
  -- a code gives back its direction
  pub found : (d : Dir) → dir_of t (t.code_of d) ≡ some d
  -- and no other code gives it
  pub only : (code : ℕ) (d : Dir) → dir_of t code ≡ some d → code ≡ t.code_of d
  -- codes tell directions apart
  pub different : (d e : Dir) → t.code_of d ≡ t.code_of e → d ≡ e
  -- no direction has a code of no direction: neither a null cell's nor a pond's
  pub directed : (d : Dir) → In (t.code_of d) undirected → ⊥
  -- a code of no direction gives none
  pub gives_none : (code : ℕ) → In code undirected → dir_of t code ≡ none
  -- as does all that is no direction's code
  pub nowhere : (code : ℕ) → ((d : Dir) → code ≡ t.code_of d → ⊥) → dir_of t code ≡ none

module _ (t : Table) where
  find_own : (ds : List Dir) (d : Dir) → Sorted (λ x y. x ≡ y → ⊥) (map t.code_of ds) → In d ds
      → find_dir t ds (t.code_of d) ≡ some d
  find_own [] d s i = absurd i
  find_own (f ∷ ds) d s (inl e) = rw (eq-eqb (t.code_of f) (t.code_of d) (ap t.code_of (sym e))) (ap some (sym e))
  find_own (f ∷ ds) d s (inr i) =
      rw (ne_eqb (t.code_of f) (t.code_of d)
      (every_in (λ y. t.code_of f ≡ y → ⊥) (t.code_of d) (map t.code_of ds) s.0 (in_map t.code_of d ds i)))
      (find_own ds d s.1 i)

  find_code : (ds : List Dir) (code : ℕ) (d : Dir) → find_dir t ds code ≡ some d → code ≡ t.code_of d
  find_code [] code d e = let w : ◌≡◌ {A = ℕ} 0 1 = cc in absurd (omega arith)
  find_code (f ∷ ds) code d e = go (eqb (t.code_of f) code) refl (find_code ds code d)
    where
      go : (b : Bool) → eqb (t.code_of f) code ≡ b → (find_dir t ds code ≡ some d → code ≡ t.code_of d)
          → code ≡ t.code_of d
      go true h ih =
          let p : some f ≡ some d = sym (rw h) ∙ e in
          let q : f ≡ d = cc in
          sym (eqb-true (t.code_of f) code h) ∙ ap t.code_of q
      go false h ih = ih (sym (rw h) ∙ e)

  find_none : (ds : List Dir) (code : ℕ) → ((d : Dir) → code ≡ t.code_of d → ⊥) → find_dir t ds code ≡ none
  find_none [] code f = refl
  find_none (d ∷ ds) code f = rw (ne_eqb (t.code_of d) code (λ e. f d (sym e))) (find_none ds code f)

  sorted : Sorted (λ x y. x ≡ y → ⊥) (codes_of t)
  sorted = different_sorted (codes_of t) t.apart

  found : (d : Dir) → dir_of t (t.code_of d) ≡ some d
  unfolding dir_of
  found d = find_own dirs d (sorted_right (λ x y. x ≡ y → ⊥) undirected (map t.code_of dirs) sorted) (all_dirs d)

  only : (code : ℕ) (d : Dir) → dir_of t code ≡ some d → code ≡ t.code_of d
  unfolding dir_of
  only code d e = find_code dirs code d e

  nowhere : (code : ℕ) → ((d : Dir) → code ≡ t.code_of d → ⊥) → dir_of t code ≡ none
  unfolding dir_of
  nowhere code f = find_none dirs code f

  across : (code : ℕ) → In code undirected → (d : Dir) → code ≡ t.code_of d → ⊥
  across code i d = sorted_across (λ x y. x ≡ y → ⊥) undirected (map t.code_of dirs) sorted code (t.code_of d) i
      (in_map t.code_of d dirs (all_dirs d))

  pub table_facts : TableFacts t
  table_facts = record {
    found = found;
    only = only;
    different = λ d e h. let p : some d ≡ some e = sym (found d) ∙ ap (dir_of t) h ∙ found e in cc;
    directed = λ d i. across (t.code_of d) i d refl;
    gives_none = λ code i. nowhere code (across code i);
    nowhere = nowhere;
  }
