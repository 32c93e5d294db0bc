-- `run::refusals::table_fits` meets its contract.
use mathlib.Core.Path.{sym, ◌∙◌}
use Rattle.run.proofs.refusals.table_fits.Goals as goal

pub returns-then-has_room : goal.returns-then-has_room
returns-then-has_room c = rw (sym c.has_room.ensures ∙ c.if-has_room.true)

pub returns : goal.returns
returns c = rw (sym c.has_room.ensures ∙ c.if-has_room.false)
