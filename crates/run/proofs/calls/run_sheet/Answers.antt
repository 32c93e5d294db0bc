-- `run::calls::run_sheet` meets its contract.
use mathlib.Core.Path.{subst}
use native.Mathlib.Omega.{arith}
use Rattle.number.specs.Arithmetic.{arithmetic_on, divides}
use Rattle.table.specs.Computed.{needs_of}
use Rattle.table.proofs.QuotientLaws.{rows_within}
use Rattle.run.specs.Runs.{lent_of}
use Rattle.run.specs.Inner.CallSteps.{JudgedAs, HasRoom}
use Rattle.run.proofs.SectionLaws.{sheet_room}
use Rattle.run.proofs.CallsJudged.{said, rooms_of}
use Rattle.run.proofs.AdjointCalls.{adjoint_indexed, adjoint_refused, adjoint_numbers_refused, adjoint_ran}
use Rattle.run.proofs.calls.run_sheet.Goals.{In-Ok}
use Rattle.run.proofs.calls.run_sheet.Goals as goal

-- the plan has room, in this arithmetic
room : (g : _) (c : In-Ok g) → HasRoom (divides (arithmetic_on g.N.Number.operations)) needs_of c.args.words.now
    (rooms_of (arithmetic_on g.N.Number.operations) c.args.starts.now c.args.seeds.now
    (lent_of (arithmetic_on g.N.Number.operations) c.args.table.now c.args.values.now c.args.turns.now c.args.res.now))
    c.plan_sheet-planned.new.marks c.plan_sheet-planned.new.came c.plan_sheet-planned.new.goes c.in-Ok.plan
room g c =
    subst (JudgedAs (divides (arithmetic_on g.N.Number.operations)) needs_of _ _ _ _ _) c.in-Ok.is
    (c.judge.ensures _ needs_of _ _ _ _ (c.divisible-allowed.ensures needs_of _ _ _ c.plan_sheet-planned.ensures.0))

pub divisible-allowed-requires : goal.divisible-allowed-requires
divisible-allowed-requires g c = rows_within needs_of _ _ _ _ c.plan_sheet-planned.result c.plan_sheet-planned.ensures.0

pub all_admitted-requires : goal.all_admitted-requires
all_admitted-requires g c =
    let fits = sheet_room _ _ _ (room g c) in
    omega (arith, fits.few, fits.starts_fit, fits.seeds_fit)

pub returns-in-Err-all_admitted : goal.returns-in-Err-all_admitted
returns-in-Err-all_admitted g c =
    adjoint_numbers_refused (arithmetic_on g.N.Number.operations) _ _ _ _ (room g (goal.at.returns-in-Err-all_admitted g c).In-Ok)
    (said c.all_admitted.ensures c.in-Err-all_admitted.is) c.from.ensures

pub write_planned-requires : goal.write_planned-requires
write_planned-requires g c =
    let has = room g (goal.at.write_planned-requires g c).In-Ok in
    record { planned = has.made; table_fits = has.table_fits }

pub run_written-requires : goal.run_written-requires
run_written-requires g c =
    let has = room g (goal.at.run_written-requires g c).In-Ok in
    record { indexed = adjoint_indexed has.made c.write_planned.ensures; room = sheet_room _ _ _ has }

pub returns-in-Err : goal.returns-in-Err
returns-in-Err g c =
    adjoint_refused (arithmetic_on g.N.Number.operations) _ _ _ _
    (subst (JudgedAs (divides (arithmetic_on g.N.Number.operations)) needs_of _ _ _ _ _) c.in-Err.is
    (c.judge.ensures _ needs_of _ _ _ _ (c.divisible-allowed.ensures needs_of _ _ _ c.plan_sheet-planned.ensures.0)))

pub returns-in_default : goal.returns-in_default
returns-in_default g c =
    adjoint_ran (arithmetic_on g.N.Number.operations) _ _ _ _ (room g (goal.at.returns-in_default g c).In-Ok)
    (said c.all_admitted.ensures c.in_default.is) c.write_planned.ensures c.run_written.ensures
