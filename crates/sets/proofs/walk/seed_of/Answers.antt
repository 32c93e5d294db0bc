-- `sets::walk::seed_of` meets its contract: each variable doubles the mask that the later ones make, and adds its own bit.
use Rattle.std.proofs.Common.{◌≡◌, ◌+◌, ◌-◌, ◌^◌, ◌<◌, ℕ}
use native.Mathlib.Omega.{arith}
use mathlib.Core.Path.{sym, ap}
use mathlib.Core.Bool.{cond}
use Rattle.sets.proofs.Seeds.{byte_of, seed_none, seed_done, seed_on, seed_below}
use Rattle.sets.proofs.walk.seed_of.Goals as goal

pub loop-variable-init : goal.loop-variable-init
loop-variable-init g c = sym (seed_none _ _ _ c.args.laid.roles)

pub overflow_mul-seed : goal.overflow_mul-seed
overflow_mul-seed g c =
    let small : c.loop-variable.seed < 2 ^ 63 =
    rw c.loop-variable.invariant (seed_below g.A.Analysis.which c.args.laid.words.now c.args.laid.variables c.args.laid.roles c.loop-variable.variable (omega arith) c.args.laid.small) in
    record { fits = omega (arith, small) }

pub overflow_add-seed : goal.overflow_add-seed
overflow_add-seed g c =
    let small : c.loop-variable.seed < 2 ^ 63 =
    rw c.loop-variable.invariant (seed_below g.A.Analysis.which c.args.laid.words.now c.args.laid.variables c.args.laid.roles c.loop-variable.variable (omega arith) c.args.laid.small) in
    record { fits = omega (arith, small, byte_of c.has_role-there.result) }

pub loop-variable-preserved : goal.loop-variable-preserved
loop-variable-preserved g c =
    let step : c.loop-variable.variable - 1 + 1 ≡ c.loop-variable.variable = omega arith in
    let on = seed_on g.A.Analysis.which c.args.laid.words.now c.args.laid.variables c.args.laid.roles _ _ step (omega arith) in
    let there = rw step at c.has_role-there.ensures in
    omega (arith, on, c.loop-variable.invariant, byte_of c.has_role-there.result, ap {B = ℕ} (λ b. cond b 1 0) there)

pub returns : goal.returns
returns g c = seed_done _ _ _ c.args.laid.roles _ _ (omega arith) c.loop-variable.invariant
