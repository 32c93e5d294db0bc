-- `gallop::input::Input::next_line` is safe and ends. The invariant: the line is no longer than its room.
use Rattle.std.proofs.Common.{◌≤◌}
use Rattle.gallop.proofs.input.Input.next_line.Given as goal

abbrev pub invariant-loop : goal.invariant-loop
invariant-loop l = l.length ≤ 65536
