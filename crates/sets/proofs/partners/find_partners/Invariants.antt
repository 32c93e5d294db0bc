-- `sets::partners::find_partners` meets its contract: the loop's invariant: the rest of the pass from here ends where the whole pass does,
-- and asks the lists for rows alone.
use Rattle.sets.specs.Inner.RowEquations.{line_in}
use Rattle.sets.proofs.PartnerPass.{Finding}
use Rattle.sets.proofs.partners.find_partners.Given as goal

abbrev pub invariant-loop-number : goal.invariant-loop-number
invariant-loop-number l =
    Finding (line_in l.laid.words.now l.laid.first) l.laid.rows l.initial.came l.initial.goes l.came l.goes l.top.0 l.number
