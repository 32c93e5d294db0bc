-- `runner::run_rows` meets its contract.
use mathlib.Core.Path.{refl, ◌∙◌}
use native.Mathlib.Omega.{arith}
use Rattle.machine.proofs.PeekLaws.{peeks_fewer}
use Rattle.machine.proofs.RunLaws.{still_indexes, first_indexed, run_starts, straight_fewer, inner_goes, inner_peeks_on, straight_stops, straight_sticks, block_goes, block_ends}
use Rattle.runner.proofs.run_rows.Goals as goal

pub run-init : goal.run-init
run-init g c = run_starts _ _ _ _ c.first-place.ensures c.requires.loops_fit

pub peek-place-requires-clause-indexed : goal.peek-place-requires-clause-indexed
peek-place-requires-clause-indexed g c =
    still_indexes (c.straight_row.auto.store ∙ c.loop-next.invariant.lengths.store ∙ c.run.invariant.lengths.store)
    (first_indexed (omega (arith, c.loop-next.invariant.reaches)) c.requires.indexed)

pub loop-next-smaller : goal.loop-next-smaller
loop-next-smaller g c =
    omega (arith, straight_fewer _ c.loop-next.invariant c.straight_row.ensures c.in-On.is, peeks_fewer c.peek-place.ensures)

pub loop-next-preserved : goal.loop-next-preserved
loop-next-preserved g c =
    inner_peeks_on _ c.peek-place.ensures
    (inner_goes _ c.loop-next.invariant c.straight_row.ensures c.in-On.is
    (record {
      store = c.straight_row.auto.store;
      values = c.straight_row.auto.values;
      turns = c.straight_row.auto.turns;
      copied = c.straight_row.auto.copied;
    }))
    c.peek-place.auto.store

pub run-preserved : goal.run-preserved
run-preserved g c =
    block_goes _ c.loop-next.invariant c.straight_row.ensures c.run.invariant c.block_row.ensures c.in-Block.is c.in-Ok.is
    (record {
      store = c.straight_row.auto.store;
      values = c.straight_row.auto.values;
      turns = c.block_row.auto.turns ∙ c.straight_row.auto.turns;
      copied = c.straight_row.auto.copied;
    })

pub returns-in-Stopped : goal.returns-in-Stopped
returns-in-Stopped g c =
    straight_stops _ c.loop-next.invariant c.straight_row.ensures c.run.invariant c.in-Stopped.is refl c.left_by.ensures

pub returns-in-Stuck : goal.returns-in-Stuck
returns-in-Stuck g c = straight_sticks _ c.loop-next.invariant c.straight_row.ensures c.run.invariant c.in-Stuck.is c.left_by-in-Stuck.ensures

pub returns-in-Err : goal.returns-in-Err
returns-in-Err g c =
    block_ends _ c.loop-next.invariant c.straight_row.ensures c.run.invariant c.block_row.ensures c.in-Block.is c.in-Err.is c.left_by-in-Err.ensures
