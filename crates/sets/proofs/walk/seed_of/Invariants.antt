-- The mask has the variables from the last one taken on.
use Rattle.std.proofs.Common.{◌≡◌}
use Rattle.sets.proofs.Seeds.{seed_from}
use Rattle.sets.proofs.walk.seed_of.Given as goal

abbrev pub invariant-loop-variable : goal.invariant-loop-variable
invariant-loop-variable g l =
    l.seed ≡ seed_from g.A.Analysis.which l.laid.words.now l.laid.variables l.variable
