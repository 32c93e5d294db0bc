-- `writer::rows::loop_kind` meets its contract.
use Prim.Native.Nat.{ℕ, zero, suc}
use mathlib.Core.Path.{◌≡◌, refl}
use Rattle.table.specs.Inner.MarkedRows.{row_with, loop_back}
use Rattle.writer.proofs.rows.loop_kind.Goals as goal

repeats : (turns : ℕ) → (turns ≡ 0 → ⊥) → row_with 10 0 turns 0 ≡ loop_back turns
repeats zero some = absurd (some refl)
repeats (suc m) some = refl

pub returns-then-turns-eq0 : goal.returns-then-turns-eq0
returns-then-turns-eq0 c = rw c.if-turns-eq0.true

pub returns-else-turns-eq0 : goal.returns-else-turns-eq0
returns-else-turns-eq0 c = repeats _ c.if-turns-eq0.false
