-- `writer::sweep::Handed::turns_back` meets its contract.
use mathlib.Core.Path.{sym, ap, ◌∙◌}
use Rattle.sheet.specs.Inner.RowLines.{numbered_row}
use Rattle.writer.specs.Inner.RowsWritten.{leads_on, turns_said_by, turns_back}
use Rattle.writer.proofs.PartsApart.{not_end_repeat}
use native.Mathlib.Omega.{arith}
use Rattle.writer.proofs.sweep.Handed.turns_back.Goals as goal

pub partner-requires : goal.partner-requires
partner-requires c = c.requires.0

pub row-requires : goal.row-requires
row-requires c =
    omega (arith, c.partner.ensures, c.requires.1 (ap leads_on c.in-EndRepeat.is))

pub returns : goal.returns
unfolding turns_back
returns c =
    let x = c.args.self in
    let opened = ap turns_said_by c.row.ensures ∙ ap (λ p. turns_said_by (numbered_row x.words.now x.shape.first_row p)) c.partner.ensures in
    rw c.in-EndRepeat.is (c.turns_said.ensures ∙ opened)

pub returns-in_default : goal.returns-in_default
returns-in_default c = sym (not_end_repeat _ _ _ _ c.args.part c.in_default.not-EndRepeat)
