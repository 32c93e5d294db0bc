-- `writer::sweep::Handed::step_back` meets its contract, by what the row is to the blocks.
use mathlib.Core.Path.{ap}
use mathlib.Core.Logic.{inl, inr}
use Rattle.writer.specs.Inner.RowsWritten.{leads_on, step_back}
use Rattle.writer.proofs.sweep.Handed.step_back.Goals as goal

pub if_end-requires : goal.if_end-requires
if_end-requires c = (c.requires.1, c.requires.2 (ap leads_on c.in-If.is))

pub partner-requires : goal.partner-requires
partner-requires c = c.requires.0

pub returns-in-Assignment : goal.returns-in-Assignment
unfolding step_back
returns-in-Assignment c = elim c.in-Assignment.is [ inl is ↦ rw is | inr loop ↦ elim loop [ inl is ↦ rw is | inr is ↦ rw is ] ]

pub returns-in-If : goal.returns-in-If
unfolding step_back
returns-in-If c = rw c.in-If.is c.if_end.ensures

pub returns-in-Else : goal.returns-in-Else
unfolding step_back
returns-in-Else c = elim c.in-Else.is [ inl is ↦ rw is c.partner.ensures | inr is ↦ rw is c.partner.ensures ]
