-- `sets::rows::opens_test` meets its contract: a row's kind tells it.
use mathlib.Core.Path.{sym, ap, ◌∙◌}
use lib.Dec.{eqb}
use Rattle.sheet.specs.Rows.{while_kind}
use Rattle.sheet.proofs.LinesByPart.{row_tests}
use Rattle.sets.proofs.rows.opens_test.Goals as goal

pub returns : goal.returns
returns c =
    rw c.wide.ensures.0 (ap (λ kind. eqb kind while_kind) c.kind_of.ensures.is ∙ sym (row_tests (c.args.laid.readable _ c.requires).says))
