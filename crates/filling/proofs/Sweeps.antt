-- One turn of taking flags away.
-- Assumes nothing.
use mathlib.Core.Path.{◌≡◌, refl, sym, ap, ◌∙◌, subst}
use mathlib.Core.Bool.{Bool, true, false}
use mathlib.Core.List.{List}
use Prim.Native.Nat.{ℕ, suc, ◌+◌, ◌%◌, ◌≤◌, ◌<◌, ◌^◌}
use native.Mathlib.Numerals.{add-one}
use native.Mathlib.Omega.{arith}
use lib.ListN.{length, get_or, set, take}
use lib.Seq.{get_or-set_same, get_or-set_other}
use lib.Dec.{eqb}
use borrow.Author.Tests.{eqb-true, eqb-false}
use Rattle.lists.specs.Lists.{member}
use Rattle.filling.specs.Filling.{strip_if, Stripped}
use Rattle.lists.proofs.Kept.{kept_then, kept_set}
use Rattle.lists.proofs.Members.{member_it, member_other}

strip_twice : (b : Bool) (w : ℕ) → strip_if b w % 2 ^ 30 ≡ w % 2 ^ 30
strip_twice true w = omega arith
strip_twice false w = refl

pub strip_step : {n j o : ℕ} {outlets l m : List ℕ} → o ≡ get_or outlets j 0 → j < length outlets → get_or outlets j 0 < n
    → n ≤ length l → Stripped n outlets j l m → Stripped n outlets (j + 1) l (set m o (get_or m o 0 % 2 ^ 30))
strip_step {n} {j} {o} {outlets} {l} {m} s h i r f = rw (add-one j) (record {
  kept = kept_then f.kept (kept_set o (get_or m o 0 % 2 ^ 30) (omega arith));
  words = λ x. go x (eqb o x) refl;
})
  where
    at_o : (x : ℕ) {b : Bool} → eqb o x ≡ b → eqb (get_or outlets j 0) x ≡ b
    at_o x e = ap (λ (y : ℕ). eqb y x) (sym s) ∙ e

    v : ℕ
    v = get_or m o 0 % 2 ^ 30

    go : (x : ℕ) (b : Bool) → eqb o x ≡ b
        → get_or (set m o (get_or m o 0 % 2 ^ 30)) x 0 ≡ strip_if (member x (take (suc j) outlets)) (get_or l x 0)
    go x true e = subst (λ (y : ℕ). get_or (set m o (get_or m o 0 % 2 ^ 30)) y 0 ≡ get_or l y 0 % 2 ^ 30) (eqb-true o x e)
        (get_or-set_same m o (get_or m o 0 % 2 ^ 30) 0 (omega (arith, f.kept.same_length))
        ∙ ap (λ (w : ℕ). w % 2 ^ 30) (f.words o) ∙ strip_twice (member o (take j outlets)) (get_or l o 0))
        ∙ sym (ap (λ (b : Bool). strip_if b (get_or l x 0)) (member_it outlets j h x (at_o x e)))
    go x false e = get_or-set_other m o x (get_or m o 0 % 2 ^ 30) 0 (λ q. eqb-false o x e (sym q)) ∙ f.words x
        ∙ sym (ap (λ (b : Bool). strip_if b (get_or l x 0)) (member_other outlets j h x (at_o x e)))
