-- `writer::partners::if_end` meets its contract.
use native.Mathlib.Omega.{arith}
use mathlib.Core.Path.{ap, ◌∙◌}
use lib.ListN.{get_or}
use Rattle.writer.proofs.partners.if_end.Goals as goal

pub partner-requires : goal.partner-requires
partner-requires c = c.requires.0

pub partner-requires-2 : goal.partner-requires-2
partner-requires-2 c = omega (arith, c.partner.ensures, c.requires.1)

pub returns : goal.returns
returns c = c.partner-2.ensures ∙ ap (λ split. get_or c.args.goes.now split 0) c.partner.ensures
