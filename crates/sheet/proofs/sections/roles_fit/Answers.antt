-- `sheet::sections::roles_fit` meets its contract.
use Rattle.std.proofs.Common.{sym, ap, ◌∙◌}
use Rattle.sheet.proofs.RolesJudged.{roles_by, roles_judged}
use Rattle.sheet.proofs.sections.roles_fit.Goals as goal

pub returns-in-Some : goal.returns-in-Some
returns-in-Some c = ap roles_by c.in-Some.ensures ∙ sym (roles_judged c.args.roles.now)

pub returns-in-None : goal.returns-in-None
returns-in-None c = ap roles_by c.in-None.ensures ∙ sym (roles_judged c.args.roles.now)
