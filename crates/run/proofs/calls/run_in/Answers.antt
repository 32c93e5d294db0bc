-- `run::calls::run_in` meets its contract.
use mathlib.Core.Path.{◌∙◌}
use Rattle.number.specs.Arithmetic.{arithmetic_on}
use Rattle.machine.proofs.RunLaws.{still_indexed}
use Rattle.run.proofs.AdjointCalls.{result_fits_lem, adjoint_comes_to}
use native.Mathlib.Omega.{arith}
use Rattle.run.proofs.calls.run_in.Goals as goal

pub run_table-end-requires : goal.run_table-end-requires
run_table-end-requires g c =
    still_indexed c.copy.auto.into c.requires.indexed

pub write_result-requires : goal.write_result-requires
write_result-requires g c =
    result_fits_lem (arithmetic_on g.N.Number.operations) c.requires.room c.run_table-end.new.store (c.run_table-end.auto.store ∙ c.copy.auto.into) c.run_table-end.auto.copied

pub shape_of-values : goal.shape_of-values
shape_of-values g c = c.run_table-end.auto.values

pub shape_of-turns : goal.shape_of-turns
shape_of-turns g c = c.run_table-end.auto.turns

pub shape_of-store : goal.shape_of-store
shape_of-store g c =
    c.run_table-end.auto.store ∙ c.copy.auto.into

pub returns : goal.returns
returns g c =
    λ sheet buffer counts ready.
    adjoint_comes_to (arithmetic_on g.N.Number.operations) ready c.requires.room _ _ buffer _ c.copy.ensures (rw counts at c.run_table-end.ensures) c.write_result.ensures c.answer_end.ensures
