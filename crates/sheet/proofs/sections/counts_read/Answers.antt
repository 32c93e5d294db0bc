-- `sheet::sections::counts_read` meets its contract: each judgement that was passed is kept by name, and each refusal is the whole sheet's.
use Rattle.std.proofs.Common.{◌≡◌, ℕ, ◌+◌, ◌-◌, List, take, drop, sym, Err, arith}
use Rattle.sheet.specs.Judging.{Answer}
use Rattle.sheet.specs.Reading.{roles_fit}
use Rattle.sheet.specs.Bounds.{limit}
use Rattle.sheet.proofs.ShapeRead.{variables_refused, roles_refused, constants_refused, rows_refused}
use Rattle.sheet.proofs.NamesPresent.{count_judged}
use Rattle.sheet.proofs.sections.counts_read.Goals as goal

-- the roles that were judged are as many as there are variables
passed : (v : ℕ) (words : List ℕ) {answer : Answer (Unit {0})} → answer ≡ roles_fit (take (1 + v - 1) (drop 1 words)) 1 → roles_fit (take v (drop 1 words)) 1 ≡ answer
passed v words judged = let same : 1 + v - 1 ≡ v = omega arith in sym (rw same at judged)

pub returns-in_err-variables : goal.returns-in_err-variables
returns-in_err-variables c =
    let gone : c.from_residual.result ≡ Err c.in_err-variables.field-0.0 = grind arith in
    rw gone (variables_refused _ _ (sym c.in_err-variables.ensures))

pub slice_bounds-roles_fit-end : goal.slice_bounds-roles_fit-end
slice_bounds-roles_fit-end c =
    let v = count_judged _ 0 limit.fewest_variables limit.variables 1 _ (sym c.in_ok-variables.ensures) in
    omega (arith, v.there)

pub returns-in_err-roles_fit : goal.returns-in_err-roles_fit
returns-in_err-roles_fit c =
    let gone : c.from_residual-in_err-roles_fit.result ≡ Err c.in_err-roles_fit.field-0.0 = grind arith in
    rw gone (roles_refused _ _ (sym c.in_ok-variables.ensures) _ (passed _ c.args.words.now c.in_err-roles_fit.ensures))

pub overflow_add-constant_count : goal.overflow_add-constant_count
overflow_add-constant_count c =
    let v = count_judged _ 0 limit.fewest_variables limit.variables 1 _ (sym c.in_ok-variables.ensures) in
    omega (arith, v.most)

pub returns-in_err-constants : goal.returns-in_err-constants
returns-in_err-constants c =
    let gone : c.from_residual-in_err-constants.result ≡ Err c.in_err-constants.field-0.0 = grind arith in
    rw gone (constants_refused _ _ (sym c.in_ok-variables.ensures) (passed _ c.args.words.now c.in_ok-roles_fit.ensures) _ (sym c.in_err-constants.ensures))

pub overflow_add-row_count : goal.overflow_add-row_count
overflow_add-row_count c =
    let v = count_judged _ 0 limit.fewest_variables limit.variables 1 _ (sym c.in_ok-variables.ensures) in
    omega (arith, v.most)

pub overflow_add-row_count-2 : goal.overflow_add-row_count-2
overflow_add-row_count-2 c =
    let v = count_judged _ 0 limit.fewest_variables limit.variables 1 _ (sym c.in_ok-variables.ensures) in
    let k = count_judged _ _ 0 limit.constants 1 _ (sym c.in_ok-constants.ensures) in
    omega (arith, v.most, k.most)

pub returns-in_err-rows : goal.returns-in_err-rows
returns-in_err-rows c =
    let gone : c.from_residual-in_err-rows.result ≡ Err c.in_err-rows.field-0.0 = grind arith in
    rw gone (rows_refused _ _ (sym c.in_ok-variables.ensures) (passed _ c.args.words.now c.in_ok-roles_fit.ensures) _ (sym c.in_ok-constants.ensures) _ (sym c.in_err-rows.ensures))
