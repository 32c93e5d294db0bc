-- `sets::transfers::operation_at` meets its contract: the row's words are bits of a mask, and name what their slots say.
use mathlib.Core.Path.{refl}
use Rattle.sheet.specs.Sheets.{row_at}
use Rattle.sets.proofs.OperationLaws.{row_performed}
use Rattle.sets.proofs.SheetRows.{in_mask}
use Rattle.sets.proofs.transfers.operation_at.Goals as goal

pub named-requires : goal.named-requires
unfolding row_at
named-requires c = (in_mask c.args.laid.readable c.requires.0 c.requires.1 c.requires.2).a

pub named-requires-2 : goal.named-requires-2
unfolding row_at
named-requires-2 c = (in_mask c.args.laid.readable c.requires.0 c.requires.1 c.requires.2).b

pub invariant_of-result : goal.invariant_of-result
unfolding row_at
invariant_of-result c =
    record { small = (in_mask c.args.laid.readable c.requires.0 c.requires.1 c.requires.2).d }

pub returns : goal.returns
unfolding row_at
returns c =
    row_performed _ _ _ c.requires.1 refl refl c.named.ensures c.named-2.ensures
