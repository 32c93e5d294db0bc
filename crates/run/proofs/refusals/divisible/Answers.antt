-- `run::refusals::divisible` meets its contract.
use mathlib.Core.Path.{sym, subst, ◌∙◌}
use Rattle.table.specs.Inner.Plans.{PlanSaysIn}
use Rattle.run.proofs.CallsJudged.{planned_in}
use Rattle.run.proofs.refusals.divisible.Goals as goal

pub returns-then-divides : goal.returns-then-divides
returns-then-divides g c =
    λ needs marks came goes says.
    subst (λ b. PlanSaysIn b needs c.args.words.now marks came goes c.args.planned) (sym c.if-divides.true ∙ c.divides.ensures)
    (planned_in needs _ marks came goes _ says)

pub returns-else-divides : goal.returns-else-divides
returns-else-divides g c =
    λ needs marks came goes says.
    subst (λ b. PlanSaysIn b needs c.args.words.now marks came goes c.undivided.result) (sym c.if-divides.false ∙ c.divides.ensures)
    (c.undivided.ensures needs marks came goes says)
