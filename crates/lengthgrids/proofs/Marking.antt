-- Marks put at the outlets, one by one.
-- Assumes nothing.
use mathlib.Core.Path.{◌≡◌, refl, sym, ap, ◌∙◌, subst}
use mathlib.Core.Bool.{Bool, true, false, cond}
use mathlib.Core.List.{List}
use Prim.Native.Nat.{ℕ, suc, ◌+◌, ◌≤◌, ◌<◌}
use native.Mathlib.Numerals.{add-one}
use native.Mathlib.Omega.{arith}
use lib.ListN.{length, get_or, set, take}
use lib.Seq.{get_or-set_same, get_or-set_other}
use lib.Dec.{eqb}
use borrow.Author.Tests.{eqb-true, eqb-false}
use Rattle.lists.specs.Lists.{member}
use Rattle.lists.proofs.Kept.{kept_then, kept_set}
use Rattle.lists.proofs.Members.{member_it, member_other}
use Rattle.lengthgrids.specs.Grids.{MarkedWith}

pub marked_more : {n j o mark : ℕ} {outlets l m : List ℕ} → o ≡ get_or outlets j 0 → j < length outlets
    → get_or outlets j 0 < n → n ≤ length l → MarkedWith n outlets j mark l m
    → MarkedWith n outlets (j + 1) mark l (set m o mark)
marked_more {n} {j} {o} {mark} {outlets} {l} {m} s h i r f = rw (add-one j) (record {
  kept = kept_then f.kept (kept_set o mark (omega arith));
  marks = λ x. go x (eqb o x) refl;
})
  where
    at_o : (x : ℕ) {b : Bool} → eqb o x ≡ b → eqb (get_or outlets j 0) x ≡ b
    at_o x e = ap (λ (y : ℕ). eqb y x) (sym s) ∙ e

    go : (x : ℕ) (b : Bool) → eqb o x ≡ b
        → get_or (set m o mark) x 0 ≡ cond (member x (take (suc j) outlets)) mark (get_or l x 0)
    go x true e = subst (λ (y : ℕ). get_or (set m o mark) y 0 ≡ mark) (eqb-true o x e)
        (get_or-set_same m o mark 0 (omega (arith, f.kept.same_length)))
        ∙ sym (ap (λ (b : Bool). cond b mark (get_or l x 0)) (member_it outlets j h x (at_o x e)))
    go x false e = get_or-set_other m o x mark 0 (λ q. eqb-false o x e (sym q)) ∙ f.marks x
        ∙ sym (ap (λ (b : Bool). cond b mark (get_or l x 0)) (member_other outlets j h x (at_o x e)))
