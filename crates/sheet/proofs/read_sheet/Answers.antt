-- `sheet::read_sheet` meets its contract: the counts are refused or judged, and once they are judged the rows decide.
use Rattle.std.proofs.Common.{◌≡◌, sym, ap, ◌∙◌, Err, arith}
use Rattle.sheet.specs.Judging.{given}
use Rattle.sheet.specs.Answers.{said}
use Rattle.sheet.proofs.ShapeRead.{counts_within, body_refuses, finish_says}
use Rattle.sheet.proofs.read_sheet.Goals as goal

pub overflow_add-first_row : goal.overflow_add-first_row
overflow_add-first_row c = omega (arith, (counts_within c.in_ok-counts.ensures).variables)

pub overflow_add-first_row-2 : goal.overflow_add-first_row-2
overflow_add-first_row-2 c = let within = counts_within c.in_ok-counts.ensures in omega (arith, within.variables, within.constants)

pub rows_read-requires : goal.rows_read-requires
rows_read-requires c = let within = counts_within c.in_ok-counts.ensures in (within.there, within.variables, within.constants)

pub returns-in_err-rows_read : goal.returns-in_err-rows_read
returns-in_err-rows_read c =
    let gone : c.from_residual-in_err-rows_read.result ≡ Err c.in_err-rows_read.field-0.0 = grind arith in
    rw gone (body_refuses c.in_ok-counts.ensures _ (sym c.in_err-rows_read.ensures))

pub overflow_mul-after : goal.overflow_mul-after
overflow_mul-after c = omega (arith, (counts_within c.in_ok-counts.ensures).rows)

pub overflow_add-after : goal.overflow_add-after
overflow_add-after c =
    let within = counts_within c.in_ok-counts.ensures in
    omega (arith, within.variables, within.constants, within.rows)

pub overflow_add-shape : goal.overflow_add-shape
overflow_add-shape c = omega (arith, (counts_within c.in_ok-counts.ensures).variables)

pub returns : goal.returns
returns c =
    let run = sym c.in_ok-rows_read.ensures ∙ ap given (sym c.wide-longest.ensures.0) in
    ap said c.finish.ensures ∙ finish_says c.in_ok-counts.ensures _ run
