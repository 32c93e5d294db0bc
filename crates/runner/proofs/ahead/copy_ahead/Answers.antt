-- `runner::ahead::copy_ahead` meets its contract.
use Prim.Native.Nat.{◌<◌}
use borrow.Author.Rules.{rules}
use lib.ListN.{length}
use Rattle.machine.proofs.PeekLaws.{copy_there, peeks_copy}
use Rattle.runner.proofs.ahead.copy_ahead.Goals as goal

pub copy_of-requires : goal.copy_of-requires
copy_of-requires g c =
    (copy_there _ c.in-Some.is c.requires.indexed c.kind_at.ensures).1

pub offset_bounds-store-row : goal.offset_bounds-store-row
offset_bounds-store-row g c =
    let there : c.in-Some.row.d < length c.args.store.now = (copy_there _ c.in-Some.is c.requires.indexed c.kind_at.ensures).0 in
    search rules

pub bounds-store-row : goal.bounds-store-row
bounds-store-row g c =
    (copy_there _ c.in-Some.is c.requires.indexed c.kind_at.ensures).0

pub returns : goal.returns
returns g c =
    peeks_copy g.N.Number.why c.in-Some.is c.requires.indexed c.kind_at.ensures
    c.copy_of.ensures c.in-Ok.is
