-- `text::pattern::fill` writes every place. The invariant: the places passed hold the pattern.
use Rattle.std.proofs.Common.{◌≡◌, ℕ, ◌<◌, get_or}
use Rattle.text.specs.Pattern.{stamp}
use Rattle.text.proofs.pattern.fill.Given as goal

abbrev pub invariant-loop-at : goal.invariant-loop-at
invariant-loop-at g l = (k : ℕ) (d : g.row.T.Denot) → k < l.at → get_or l.buffer k d ≡ g.T.Cell.stamp_of (stamp k)
