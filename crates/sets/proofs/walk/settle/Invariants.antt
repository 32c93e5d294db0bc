-- What is passed holds, nothing has more than the least sets, and the next row's own set is in hand. The measure: each way back adds a member, which is worth
-- a whole walk, and each other row leaves one row fewer.
use Rattle.sets.specs.Inner.RowEquations.{given_to, line_in}
use Rattle.sets.proofs.MarkByteLaws.{MarkingSoFar}
use Rattle.sets.proofs.Walking.{left_of}
use Rattle.sets.proofs.WalkNeeds.{Carried}
use Rattle.sets.proofs.walk.settle.Given as goal

abbrev pub invariant-loop-reached : goal.invariant-loop-reached
invariant-loop-reached g l =
    let analysis = g.A.Analysis in
    let varied = analysis.varied l.analysis in
    let useful = analysis.useful l.analysis in
    record {
      carried : Carried analysis.which (given_to analysis.which l.laid.words.now l.laid.first varied useful l.partners.taken.now) l.partners.back.now l.laid.rows l.laid.variables l.sets l.reached;
      marking : MarkingSoFar analysis.which (line_in l.laid.words.now l.laid.first) varied useful l.laid.rows l.fn.marks l.sets l.marks l.reached.turn;
    }

abbrev pub decreases-loop-reached : goal.decreases-loop-reached
decreases-loop-reached g l = left_of l.laid.variables l.laid.rows l.sets l.reached.turn
