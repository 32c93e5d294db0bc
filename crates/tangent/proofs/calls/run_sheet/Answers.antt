-- `tangent::calls::run_sheet` meets its contract.
use mathlib.Core.Path.{subst}
use native.Mathlib.Omega.{arith}
use Rattle.number.specs.Arithmetic.{arithmetic_on, divides}
use Rattle.table.proofs.QuotientLaws.{rows_within}
use Rattle.run.specs.Inner.CallSteps.{JudgedAs, HasRoom}
use Rattle.run.proofs.SectionLaws.{sheet_room}
use Rattle.run.proofs.CallsJudged.{said, rooms_of}
use Rattle.tangent.specs.TangentRuns.{without_stacks}
use Rattle.tangent.specs.Calls.{tangent_needs_of}
use Rattle.tangent.proofs.TangentCalls.{tangent_indexed, tangent_refused, tangent_numbers_refused, tangent_ran}
use Rattle.tangent.proofs.calls.run_sheet.Goals.{In-Ok}
use Rattle.tangent.proofs.calls.run_sheet.Goals as goal

-- the plan has room, in this arithmetic
room : (g : _) (c : In-Ok g) → HasRoom (divides (arithmetic_on g.N.Number.operations)) tangent_needs_of c.args.words.now
    (rooms_of (arithmetic_on g.N.Number.operations) c.args.starts.now c.args.rates.now
    (without_stacks (arithmetic_on g.N.Number.operations) c.args.table.now c.args.res.now))
    c.plan_tangent-planned.new.marks c.plan_tangent-planned.new.came c.plan_tangent-planned.new.goes c.in-Ok.plan
room g c =
    subst (JudgedAs (divides (arithmetic_on g.N.Number.operations)) tangent_needs_of _ _ _ _ _) c.in-Ok.is
    (c.judge.ensures _ tangent_needs_of _ _ _ _ (c.divisible-allowed.ensures tangent_needs_of _ _ _ c.plan_tangent-planned.ensures))

pub divisible-allowed-requires : goal.divisible-allowed-requires
divisible-allowed-requires g c = rows_within tangent_needs_of _ _ _ _ c.plan_tangent-planned.result c.plan_tangent-planned.ensures

pub returns-in-Err : goal.returns-in-Err
returns-in-Err g c =
    tangent_refused (arithmetic_on g.N.Number.operations) _ _ _ _ _
    (subst (JudgedAs (divides (arithmetic_on g.N.Number.operations)) tangent_needs_of _ _ _ _ _) c.in-Err.is
    (c.judge.ensures _ tangent_needs_of _ _ _ _ (c.divisible-allowed.ensures tangent_needs_of _ _ _ c.plan_tangent-planned.ensures)))

pub all_admitted-requires : goal.all_admitted-requires
all_admitted-requires g c =
    let fits = sheet_room _ _ _ (room g (goal.at.all_admitted-requires g c).In-Ok) in
    omega (arith, fits.few, fits.starts_fit, fits.seeds_fit)

pub returns-in-Err-all_admitted : goal.returns-in-Err-all_admitted
returns-in-Err-all_admitted g c =
    tangent_numbers_refused (arithmetic_on g.N.Number.operations) _ _ _ _ _ (room g (goal.at.returns-in-Err-all_admitted g c).In-Ok)
    (said c.all_admitted.ensures c.in-Err-all_admitted.is) c.from.ensures

pub write_planned-requires : goal.write_planned-requires
write_planned-requires g c =
    let has = room g (goal.at.write_planned-requires g c).In-Ok in
    record { planned = record { came = _; goes = _; made = has.made }; table_fits = has.table_fits }

pub run_written-requires : goal.run_written-requires
run_written-requires g c =
    let has = room g (goal.at.run_written-requires g c).In-Ok in
    record { indexed = tangent_indexed has.made c.write_planned.ensures; room = sheet_room _ _ _ has }

pub returns : goal.returns
returns g c =
    tangent_ran (arithmetic_on g.N.Number.operations) _ _ _ _ _ (room g (goal.at.returns g c).In-Ok)
    (said c.all_admitted.ensures c.in_default.is) c.write_planned.ensures c.run_written.ensures
