-- `sets::rows::kind_of` meets its contract: the first word of a row that is there, which is a kind of the table.
use mathlib.Core.Path.{refl}
use Rattle.sheet.specs.Sheets.{row_at}
use Rattle.sheet.proofs.RowsByKind.{row_kind}
use Rattle.sets.proofs.rows.kind_of.Goals as goal

pub returns : goal.returns
unfolding row_at
returns c = record { is = refl; in_table = row_kind (c.args.laid.readable _ c.requires).says }
