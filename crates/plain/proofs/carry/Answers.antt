-- `plain::carry` meets its contract.
use mathlib.Core.Path.{◌≡◌}
use native.Mathlib.Omega.{arith}
use Prim.Native.Nat.{◌+◌}
use Rattle.table.proofs.PlanLaws.{readable}
use Rattle.run.proofs.CallLaws.{replied}
use Rattle.plain.proofs.ReadyLaws.{found_lies}
use Rattle.plain.proofs.CallLaws.{roles_within, roles_few, finished, stopped}
use Rattle.plain.proofs.carry.Goals as goal

pub slice_bounds-laid-end : goal.slice_bounds-laid-end
slice_bounds-laid-end c = omega (arith, roles_within c.requires.found)

pub laid-start-requires-clause-roles_few : goal.laid-start-requires-clause-roles_few
laid-start-requires-clause-roles_few c = roles_few c.requires.found

pub run_rows-requires-clause-ready : goal.run_rows-requires-clause-ready
run_rows-requires-clause-ready c =
    let few = (found_lies c.requires.found).few_rows in record { found = c.requires.found; marks_there = omega arith; goes_there = omega arith }

pub slice_bounds-write_out-end : goal.slice_bounds-write_out-end
slice_bounds-write_out-end c = omega (arith, roles_within c.requires.found)

pub rows_before-first-requires-clause-readable : goal.rows_before-first-requires-clause-readable
rows_before-first-requires-clause-readable c =
    let lies = found_lies c.requires.found in
    let few = lies.few_rows in
    readable lies _ (omega arith)

pub returns-in-Ok : goal.returns-in-Ok
returns-in-Ok c =
    λ sheet e.
    rw (replied c.done.ensures)
    (finished c.requires.found c.args.starts.now c.args.rates.now c.laid-start.result c.laid-start.ensures.0 c.run_rows.result
    c.run_rows.ensures c.args.res.now c.in-Ok.is _ c.write_out.ensures sheet e)

pub returns-in-Err : goal.returns-in-Err
returns-in-Err c =
    let place : c.refused.result.place ≡ c.rows_before-first.result + c.in-Err.at.after = omega arith in
    λ sheet e.
    rw (replied (c.refused.ensures.0, place))
    (stopped c.requires.found c.args.starts.now c.args.rates.now c.laid-start.result c.laid-start.ensures.0 c.run_rows.result
    c.run_rows.ensures c.args.res.now c.in-Err.is c.rows_before-first.result c.rows_before-first.ensures.0 sheet e)
