-- `tangent::calls::run_in` meets its contract.
use Rattle.number.specs.Arithmetic.{arithmetic_on}
use Rattle.tangent.proofs.TangentCalls.{tangent_comes_to}
use Rattle.tangent.proofs.calls.run_in.Goals as goal

pub returns : goal.returns
returns g c =
    λ sheet buffer counts ready.
    tangent_comes_to (arithmetic_on g.N.Number.operations) ready c.requires.room buffer _ c.lay.ensures (rw counts at c.run_table-end.ensures) c.write_rates.ensures c.answer_end.ensures
