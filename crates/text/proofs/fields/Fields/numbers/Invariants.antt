-- `text::fields::Fields::numbers` reads a group. The invariant: the group is the numbers so far, and behind them what is left makes in the room that is left.
use Rattle.std.proofs.Common.{◌≡◌, ◌≤◌, ◌-◌, ◌++◌, length, take, option_map}
use Rattle.text.specs.Lines.{fields_left, group}
use Rattle.text.specs.declared.fields.End.TheVariants.{Line}
use Rattle.text.proofs.fields.Fields.numbers.Given as goal

abbrev pub invariant-loop-field : goal.invariant-loop-field
invariant-loop-field g l =
    (l.count ≤ length l.into) × (l.found ≡ Line)
    × (group g.T.Number.said l.end (length l.into) (fields_left l.fn.self)
    ≡ option_map (λ p. (take l.count l.into ++ p.0, p.1)) (group g.T.Number.said l.end (length l.into - l.count) (fields_left l.self)))

abbrev pub decreases-loop-field : goal.decreases-loop-field
decreases-loop-field g l = length (fields_left l.self)
