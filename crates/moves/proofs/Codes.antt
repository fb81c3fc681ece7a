-- Laws of the codes: what leads nowhere, and what leads on has a direction.
-- Assumes nothing.
use mathlib.Core.Path.{◌≡◌, refl, sym, ap, ◌∙◌}
use mathlib.Core.Option.{Option as Maybe, none, some}
use Prim.Native.Nat.{ℕ}
use Rattle.std.specs.Prelude.{Option, Some, None}
use Rattle.moves.specs.declared.Move.{Move}
use Rattle.ground.specs.Compass.{Dir, step_of}
use Rattle.ground.specs.Tables.{table1, dir_of}
use Rattle.moves.specs.Moves.{move_of, lead_by, lead_of, LeadsBy, step_by}

-- a code that leads on has a direction
pub record Leads (code : ℕ) (m : Move) : Type 0 where
  pub dir : Dir
  pub points : dir_of table1 code ≡ some dir
  pub is_move : m ≡ move_of dir

pub leads : (code : ℕ) {l : Option Move} {m : Move} → l ≡ lead_of code → l ≡ Some m → Leads code m
unfolding lead_of
leads code {l} {m} e f = go (dir_of table1 code) refl
  where
    go : (o : Maybe Dir) → dir_of table1 code ≡ o → Leads code m
    go none p = let q : None ≡ Some m = sym (e ∙ ap lead_by p) ∙ f in cc
    go (some d) p =
        let q : Some (move_of d) ≡ Some m = sym (e ∙ ap lead_by p) ∙ f in
        record { dir = d; points = p; is_move = cc }

pub led : {code : ℕ} {m : Move} → LeadsBy code m → Leads code m
led {code} e = leads code e refl

pub leads_nowhere : (code : ℕ) {l : Option Move} → l ≡ lead_of code → l ≡ None → dir_of table1 code ≡ none
unfolding lead_of
leads_nowhere code {l} e f = go (dir_of table1 code) refl
  where
    go : (o : Maybe Dir) → dir_of table1 code ≡ o → dir_of table1 code ≡ none
    go none p = p
    go (some d) p = let q : Some (move_of d) ≡ None = sym (e ∙ ap lead_by p) ∙ f in cc

-- the step of a code is its direction's
pub step_points : (code : ℕ) (d : Dir) → dir_of table1 code ≡ some d → step_by (lead_of code) ≡ step_of d
unfolding lead_of
step_points code d e = ap (λ o. step_by (lead_by o)) e
