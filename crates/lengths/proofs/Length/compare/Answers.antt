-- `lengths::Length::compare` meets its contract: each arm is one of 01's cases.
-- Assumes nothing.
use mathlib.Core.Path.{sym, ap₂, ◌∙◌}
use mathlib.Core.Bool.{true, false}
use Prim.Native.Nat.{◌-◌}
use native.Mathlib.Omega.{arith}
use Rattle.std.specs.declared.cmp.Ordering.TheVariants.{Less, Equal, Greater}
use Rattle.std.proofs.lemmas.Cmp.{ranked}
use Rattle.lengths.specs.Rule.{sign_of}
use Rattle.lengths.proofs.Cases.{cmp_sign, by_straight, by_diagonal, both_less, both_more, less_more, more_less}
use Rattle.lengths.proofs.Length.compare.Goals as goal

pub returns-in_default-Equal : goal.returns-in_default-Equal
returns-in_default-Equal c =
    cmp_sign c.from-a.result c.from-c.result _ c.cmp-straight.ensures ∙ ap₂ sign_of c.from-a.ensures c.from-c.ensures
    ∙ sym (by_straight c.args.self c.args.other
    (omega (arith, ranked c.from-b.result c.from-d.result Equal (sym c.in_default-Equal.is-1 ∙ c.cmp.ensures))))

pub returns-in-Equal-default : goal.returns-in-Equal-default
returns-in-Equal-default c =
    cmp_sign c.from-b.result c.from-d.result _ c.cmp.ensures ∙ ap₂ sign_of c.from-b.ensures c.from-d.ensures
    ∙ sym (by_diagonal c.args.self c.args.other
    (omega (arith, ranked c.from-a.result c.from-c.result Equal (sym c.in-Equal-default.is-0 ∙ c.cmp-straight.ensures))))

pub returns-in-Equal-default-2 : goal.returns-in-Equal-default-2
returns-in-Equal-default-2 c =
    cmp_sign c.from-b.result c.from-d.result _ c.cmp.ensures ∙ ap₂ sign_of c.from-b.ensures c.from-d.ensures
    ∙ sym (by_diagonal c.args.self c.args.other
    (omega (arith, ranked c.from-a.result c.from-c.result Equal (sym c.in-Equal-default.is-0 ∙ c.cmp-straight.ensures))))

pub returns-in-Less-Less : goal.returns-in-Less-Less
returns-in-Less-Less c =
    let h = ranked c.from-a.result c.from-c.result Less (sym c.in-Less-Less.is-0 ∙ c.cmp-straight.ensures) in
    let i = ranked c.from-b.result c.from-d.result Less (sym c.in-Less-Less.is-1 ∙ c.cmp.ensures) in
    sym (both_less c.args.self c.args.other (omega arith) (omega arith))

pub returns-in-Greater-Greater : goal.returns-in-Greater-Greater
returns-in-Greater-Greater c =
    let h = ranked c.from-a.result c.from-c.result Greater (sym c.in-Greater-Greater.is-0 ∙ c.cmp-straight.ensures) in
    let i = ranked c.from-b.result c.from-d.result Greater (sym c.in-Greater-Greater.is-1 ∙ c.cmp.ensures) in
    sym (both_more c.args.self c.args.other (omega arith) (omega arith))

pub returns-then-is_larger : goal.returns-then-is_larger
returns-then-is_larger c =
    let h = ranked c.from-a.result c.from-c.result Greater (sym c.in-Greater-Less.is-0 ∙ c.cmp-straight.ensures) in
    let i = ranked c.from-b.result c.from-d.result Less (sym c.in-Greater-Less.is-1 ∙ c.cmp.ensures) in
    sym (more_less c.args.self c.args.other
    (c.from-a.result - c.from-c.result)
    (c.from-d.result - c.from-b.result)
    (omega arith) (omega arith) (omega arith) (omega arith) true (sym c.is_larger.ensures ∙ c.if-is_larger.true))

pub returns-else-is_larger : goal.returns-else-is_larger
returns-else-is_larger c =
    let h = ranked c.from-a.result c.from-c.result Greater (sym c.in-Greater-Less.is-0 ∙ c.cmp-straight.ensures) in
    let i = ranked c.from-b.result c.from-d.result Less (sym c.in-Greater-Less.is-1 ∙ c.cmp.ensures) in
    sym (more_less c.args.self c.args.other
    (c.from-a.result - c.from-c.result)
    (c.from-d.result - c.from-b.result)
    (omega arith) (omega arith) (omega arith) (omega arith) false (sym c.is_larger.ensures ∙ c.if-is_larger.false))

pub returns-then-is_larger-2 : goal.returns-then-is_larger-2
returns-then-is_larger-2 c =
    let h = ranked c.from-a.result c.from-c.result Less (sym c.in-Less-Greater.is-0 ∙ c.cmp-straight.ensures) in
    let i = ranked c.from-b.result c.from-d.result Greater (sym c.in-Less-Greater.is-1 ∙ c.cmp.ensures) in
    sym (less_more c.args.self c.args.other
    (c.from-c.result - c.from-a.result)
    (c.from-b.result - c.from-d.result)
    (omega arith) (omega arith) (omega arith) (omega arith) true
    (sym c.is_larger-in-Less-Greater.ensures ∙ c.if-is_larger-2.true))

pub returns-else-is_larger-2 : goal.returns-else-is_larger-2
returns-else-is_larger-2 c =
    let h = ranked c.from-a.result c.from-c.result Less (sym c.in-Less-Greater.is-0 ∙ c.cmp-straight.ensures) in
    let i = ranked c.from-b.result c.from-d.result Greater (sym c.in-Less-Greater.is-1 ∙ c.cmp.ensures) in
    sym (less_more c.args.self c.args.other
    (c.from-c.result - c.from-a.result)
    (c.from-b.result - c.from-d.result)
    (omega arith) (omega arith) (omega arith) (omega arith) false
    (sym c.is_larger-in-Less-Greater.ensures ∙ c.if-is_larger-2.false))
