-- `runner::ahead::peek` meets its contract.
use mathlib.Core.Path.{refl}
use native.Mathlib.Omega.{arith}
use Rattle.machine.proofs.PeekLaws.{peek_leads, peeks_nothing, peeks_once}
use Rattle.runner.proofs.ahead.peek.Goals as goal

pub clear_ahead-requires-in-Copy-clause-until_in : goal.clear_ahead-requires-in-Copy-clause-until_in
clear_ahead-requires-in-Copy-clause-until_in g c = omega (arith, c.requires.until_in, (peek_leads c.copy_ahead-copied.ensures).1)

pub returns-in-Any : goal.returns-in-Any
returns-in-Any g c = peeks_once peeks_nothing refl
