-- `runner::run_rows` meets its contract: at every place on the way the run stands in the machine's state after its steps so far.
use Rattle.number.specs.Arithmetic.{arithmetic_on}
use Rattle.machine.specs.Inner.Buffers.{cells_of}
use Rattle.machine.proofs.RunLaws.{Invariant, Inner}
use Rattle.runner.proofs.run_rows.Given as goal

abbrev pub invariant-run : goal.invariant-run
invariant-run g l =
    let A = arithmetic_on g.N.Number.operations in
    Invariant {A = A}
    (record { table = l.table; rows = l.rows; beyond = l.beyond; keeps = l.keeps; roles = l.roles; constants = l.constants; seeds = l.seeds; steps = l.steps })
    (cells_of A l.initial.store l.initial.values l.initial.turns l.initial.copied)
    l.place
    (cells_of A l.store l.values l.turns l.copied)
    l.loops

abbrev pub decreases-run : goal.decreases-run
decreases-run g l = l.place.left

abbrev pub invariant-loop-next : goal.invariant-loop-next
invariant-loop-next g l =
    let A = arithmetic_on g.N.Number.operations in
    Inner {A = A}
    (record { table = l.table; rows = l.rows; beyond = l.beyond; keeps = l.keeps; roles = l.roles; constants = l.constants; seeds = l.seeds; steps = l.steps })
    l.until
    l.initial.place
    (cells_of A l.initial.store l.initial.values l.initial.turns l.initial.copied)
    l.place
    (cells_of A l.store l.values l.turns l.copied)
    l.loops

abbrev pub decreases-loop-next : goal.decreases-loop-next
decreases-loop-next g l = l.place.left
