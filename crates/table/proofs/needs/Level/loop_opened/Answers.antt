-- `table::needs::Level::loop_opened` meets its contract.
use mathlib.Core.Path.{◌∙◌}
use Rattle.table.proofs.needs.Level.loop_opened.Goals as goal

pub returns : goal.returns
returns c =
    rw (c.opened.ensures, c.wide.ensures.0 ∙ c.turns_of.ensures, c.with_count-before.ensures)
