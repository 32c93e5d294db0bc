-- `runner::ahead::sum_ahead` meets its contract.
use Prim.Native.Nat.{◌<◌}
use borrow.Author.Rules.{rules}
use lib.ListN.{length}
use Rattle.machine.proofs.PeekLaws.{sum_there, peeks_sum}
use Rattle.runner.proofs.ahead.sum_ahead.Goals as goal

pub added-requires : goal.added-requires
added-requires g c = let whole = (sum_there _ c.in-Some.is c.requires.indexed c.kind_at.ensures).1 in record { a_in = whole.0; b_in = whole.1 }

pub offset_bounds-store-row : goal.offset_bounds-store-row
offset_bounds-store-row g c =
    let there : c.in-Some.row.d < length c.args.store.now = (sum_there _ c.in-Some.is c.requires.indexed c.kind_at.ensures).0 in
    search rules

pub bounds-store-row : goal.bounds-store-row
bounds-store-row g c =
    (sum_there _ c.in-Some.is c.requires.indexed c.kind_at.ensures).0

pub returns : goal.returns
returns g c =
    peeks_sum g.N.Number.why c.in-Some.is c.requires.indexed c.kind_at.ensures
    c.added.ensures c.in-Ok.is
