-- `stack::climb` meets its contract, whether the outlets are looked for or not.
-- Assumes nothing.
use mathlib.Core.Path.{ap, subst}
use native.Mathlib.Omega.{arith}
use lib.ListN.{length}
use Rattle.stack.specs.Pending.{PutOn}
use Rattle.stack.proofs.Climbing.{on_cell, room_above}
use Rattle.stack.proofs.climb.Goals as goal

pub put_inflows-requires : goal.put_inflows-requires
put_inflows-requires c =
    let p = c.requires in
    let n = p.n_value in record {
      on_cell = on_cell c.requires.ready p.on_ground;
      len_in_bounds = (
        omega (
          arith,
          ap length (c.none_flows_in.ensures c.if-none_flows_in.true c.args.len),
          room_above c.requires.ready p.on_ground c.args.len _ c.args.top _ n.0 n.1,
        ),
        n.2,
      );
    }

pub returns-then-none_flows_in : goal.returns-then-none_flows_in
returns-then-none_flows_in c =
    let a = c.args in
    let r = c.put_inflows in
    subst (λ ws. PutOn ws a.top a.work.now r.result r.new.work)
    (c.none_flows_in.ensures c.if-none_flows_in.true a.len) r.ensures

pub put_inflows-requires-2 : goal.put_inflows-requires-2
put_inflows-requires-2 c =
    let p = c.requires in
    let n = p.n_value in record {
      on_cell = on_cell c.requires.ready p.on_ground;
      len_in_bounds = (room_above c.requires.ready p.on_ground c.args.len _ c.args.top _ n.0 n.1, n.2);
    }
