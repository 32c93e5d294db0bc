-- `runner::ahead::clear_ahead` meets its contract.
use Prim.Native.Nat.{◌<◌}
use borrow.Author.Rules.{rules}
use lib.ListN.{length}
use Rattle.machine.proofs.PeekLaws.{clear_there, peeks_clear}
use Rattle.runner.proofs.ahead.clear_ahead.Goals as goal

pub offset_bounds-store-row : goal.offset_bounds-store-row
offset_bounds-store-row g c =
    let there : c.in-Some.row.d < length c.args.store.now = clear_there _ c.in-Some.is c.requires.indexed c.kind_at.ensures in
    search rules

pub bounds-store-row : goal.bounds-store-row
bounds-store-row g c =
    clear_there _ c.in-Some.is c.requires.indexed c.kind_at.ensures

pub returns : goal.returns
returns g c =
    peeks_clear c.in-Some.is c.requires.indexed c.kind_at.ensures c.zero.ensures
