-- `run::calls::run_table` meets its contract.
use mathlib.Core.Path.{◌∙◌}
use Rattle.number.specs.Arithmetic.{arithmetic_on}
use Rattle.run.proofs.CallLaws.{runs_table}
use borrow.Author.Rules.{rules}
use Rattle.run.proofs.calls.run_table.Goals as goal

pub run_rows-ran-requires : goal.run_rows-ran-requires
run_rows-ran-requires g c = record { indexed = c.requires; loops_fit = search rules }

pub shape_of-store : goal.shape_of-store
shape_of-store g c = c.run_rows-ran.auto.store

pub shape_of-values : goal.shape_of-values
shape_of-values g c =
    c.clear_stacks-2.auto.values ∙ c.run_rows-ran.auto.values ∙ c.clear_stacks.auto.values

pub shape_of-turns : goal.shape_of-turns
shape_of-turns g c =
    c.clear_stacks-2.auto.turns ∙ c.run_rows-ran.auto.turns ∙ c.clear_stacks.auto.turns

pub shape_of-copied : goal.shape_of-copied
shape_of-copied g c = c.run_rows-ran.auto.copied

pub returns : goal.returns
returns g c =
    runs_table (arithmetic_on g.N.Number.operations) _ _ c.clear_stacks.ensures c.run_rows-ran.ensures c.run_rows-ran.auto.values c.run_rows-ran.auto.turns c.clear_stacks-2.ensures
