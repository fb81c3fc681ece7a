-- The faults of bytes: of one by the codes looked at so far, and the worst of several.
-- Assumes nothing.
use mathlib.Core.Path.{◌≡◌, refl, ◌∙◌}
use mathlib.Core.Bool.{Bool, true, false, ◌&&◌, or-true, or-false}
use mathlib.Core.List.{List}
use Prim.Native.Nat.{ℕ, ◌+◌, ◌≤◌, ◌<◌}
use native.Mathlib.Numerals.{add-one}
use native.Mathlib.Omega.{arith}
use lib.ListN.{length, get_or, take}
use lib.Dec.{eqb}
use borrow.Author.Tests.{eq-eqb, ne_eqb}
use Rattle.lists.specs.Lists.{member, all_below}
use Rattle.lists.proofs.Members.{member_next}
use Rattle.ground.specs.Tables.{Table, codes_of, is_code}
use Rattle.tables.specs.Faults.{fault_of}

-- a byte by one code more of a table
module _ (table : List ℕ) (k code : ℕ) (h : k < length table) where
  pub known : get_or table k 0 ≡ code → 0 ≡ fault_of (member code (take (k + 1) table))
  known e = rw (member_next table k h code, eq-eqb (get_or table k 0) code e, or-true (member code (take k table)))

  pub unknown : (get_or table k 0 ≡ code → ⊥) → {fault : ℕ} → fault ≡ fault_of (member code (take k table))
      → fault ≡ fault_of (member code (take (k + 1) table))
  unknown f e = e
      ∙ rw (member_next table k h code, ne_eqb (get_or table k 0) code f, or-false (member code (take k table)))

-- all bytes by the codes of a table
pub all_in : (t : Table) {table : List ℕ} → table ≡ codes_of t → (codes : List ℕ) (n : ℕ)
    → all_below (λ x. member (get_or codes x 0) table) n ≡ all_below (λ x. is_code t (get_or codes x 0)) n
unfolding is_code
all_in t e codes n = rw e

-- the worst fault before a number, the fault there, and the worse of the two
module _ (f : ℕ → Bool) (n : ℕ) {worst fault : ℕ} (so_far : worst ≡ fault_of (all_below f n))
    (here : fault ≡ fault_of (f n)) where
  pub worse : worst < fault → fault ≡ fault_of (all_below f (n + 1))
  worse = rw (so_far, here, add-one n) (go (f n) (all_below f n))
    where
      go : (b c : Bool) → fault_of c < fault_of b → fault_of b ≡ fault_of (b && c)
      go true c h = absurd (omega arith)
      go false c h = refl

  pub no_worse : fault ≤ worst → worst ≡ fault_of (all_below f (n + 1))
  no_worse = rw (so_far, here, add-one n) (go (f n) (all_below f n))
    where
      go : (b c : Bool) → fault_of b ≤ fault_of c → fault_of c ≡ fault_of (b && c)
      go true c h = refl
      go false true h = absurd (omega arith)
      go false false h = refl

-- no fault
pub faultless : (b : Bool) {worst : ℕ} → worst ≡ fault_of b → eqb worst 0 ≡ b
faultless true e = rw e
faultless false e = rw e
