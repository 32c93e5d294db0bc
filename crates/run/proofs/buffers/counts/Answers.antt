-- `run::buffers::counts` meets its contract.
use Rattle.run.proofs.buffers.counts.Goals as goal

pub returns-in-Independents : goal.returns-in-Independents
returns-in-Independents c = rw c.in-Independents.is c.is_independent.ensures

pub returns-in-Dependents : goal.returns-in-Dependents
returns-in-Dependents c = rw c.in-Dependents.is c.is_dependent.ensures
