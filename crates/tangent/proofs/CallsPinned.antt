-- Any two results that the contracts of write_tangent and write_planned permit coincide.
use mathlib.Core.Path.{◌≡◌}
use Prim.Native.Nat.{ℕ}
use mathlib.Core.List.{List}
use Rattle.table.specs.Sizes.{written_of}
use Rattle.writer.proofs.CallsPinned.{Left, one_left}
use Rattle.tangent.specs.Calls.{write_tangent}

pub one_tangent_write : (words buffer : List ℕ) (left left' : Left) → written_of left.answer left.table ≡ write_tangent words buffer
    → written_of left'.answer left'.table ≡ write_tangent words buffer → left ≡ left'
one_tangent_write words buffer = one_left
