-- `tangent::calls::run_written` meets its contract.
use mathlib.Core.Path.{refl}
use native.Mathlib.Omega.{arith}
use Rattle.number.specs.Arithmetic.{arithmetic_on}
use Rattle.run.proofs.SectionLaws.{run_room, part_indexed, ready_to_run}
use Rattle.tangent.proofs.calls.run_written.Goals as goal

pub whole_as_slice-store : goal.whole_as_slice-store
whole_as_slice-store g c = omega (arith, g.met.N.Number.takes_little)

pub whole_as_slice-copied : goal.whole_as_slice-copied
whole_as_slice-copied g c = omega (arith, g.met.N.Number.takes_little)

pub run_in-requires : goal.run_in-requires
run_in-requires g c =
    record {
      indexed = rw c.zero.ensures (part_indexed _ _ (arithmetic_on g.N.Number.operations) c.requires.room c.requires.indexed);
      room = rw (c.zero.ensures, c.zero-2.ensures) (run_room _ _ (arithmetic_on g.N.Number.operations) c.requires.room);
    }

pub returns : goal.returns
returns g c = λ sheet buffer place. c.run_in.ensures sheet buffer refl (ready_to_run _ _ place)
