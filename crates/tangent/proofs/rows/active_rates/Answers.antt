-- `tangent::rows::active_rates` meets its contract, kind by kind.
use Prim.Native.Nat.{◌+◌}
use mathlib.Core.Path.{◌≡◌}
use mathlib.Core.List.{[], ◌∷◌}
use native.Mathlib.Omega.{arith}
use Rattle.sheet.specs.Answers.{row_said}
use Rattle.table.specs.Inner.MarkedRows.{row_with}
use Rattle.tangent.specs.Inner.TangentRowsWritten.{active_rates_of}
use Rattle.tangent.proofs.RateRows.{of_constant, of_itself, of_sum, of_difference, of_product, of_quotient}
use Rattle.tangent.proofs.rows.active_rates.Goals.{In_default}
use Rattle.tangent.proofs.rows.active_rates.Goals as goal

pub put-requires : goal.put-requires
put-requires c = rw (of_constant c.args.out.now.variables (row_said c.args.row) c.args.mark c.in-2.is) at c.requires.room

pub returns-in-2 : goal.returns-in-2
returns-in-2 c = rw (of_constant c.args.out.now.variables (row_said c.args.row) c.args.mark c.in-2.is) c.put.ensures

pub combined_rate-requires-clause-room : goal.combined_rate-requires-clause-room
combined_rate-requires-clause-room c = rw (of_sum c.args.out.now.variables (row_said c.args.row) c.args.mark c.bit-first.ensures c.bit-second.ensures c.in-3.is) at c.requires.room

pub returns-in-3 : goal.returns-in-3
returns-in-3 c = rw (of_sum c.args.out.now.variables (row_said c.args.row) c.args.mark c.bit-first.ensures c.bit-second.ensures c.in-3.is) c.combined_rate.ensures

pub combined_rate-requires-in-4-clause-room : goal.combined_rate-requires-in-4-clause-room
combined_rate-requires-in-4-clause-room c = rw (of_difference c.args.out.now.variables (row_said c.args.row) c.args.mark c.bit-first.ensures c.bit-second.ensures c.in-4.is) at c.requires.room

pub returns-in-4 : goal.returns-in-4
returns-in-4 c = rw (of_difference c.args.out.now.variables (row_said c.args.row) c.args.mark c.bit-first.ensures c.bit-second.ensures c.in-4.is) c.combined_rate-in-4.ensures

pub term_rates-requires-clause-room : goal.term_rates-requires-clause-room
term_rates-requires-clause-room c = rw (of_product c.args.out.now.variables (row_said c.args.row) c.args.mark c.bit-first.ensures c.bit-second.ensures c.in-5.is) at c.requires.room

pub returns-in-5 : goal.returns-in-5
returns-in-5 c = rw (of_product c.args.out.now.variables (row_said c.args.row) c.args.mark c.bit-first.ensures c.bit-second.ensures c.in-5.is) c.term_rates.ensures

pub quotient_rates-requires-clause-room : goal.quotient_rates-requires-clause-room
quotient_rates-requires-clause-room c = rw (of_quotient c.args.out.now.variables (row_said c.args.row) c.args.mark c.bit-first.ensures c.bit-second.ensures c.in-18.is) at c.requires.room

pub returns-in-18 : goal.returns-in-18
returns-in-18 c = rw (of_quotient c.args.out.now.variables (row_said c.args.row) c.args.mark c.bit-first.ensures c.bit-second.ensures c.in-18.is) c.quotient_rates.ensures

-- what is left of an assignment's kinds
itself_here : (c : In_default) → let v = c.args.out.now.variables in let r = row_said c.args.row in
    active_rates_of v r c.args.mark ≡ row_with r.kind (v + r.d) (v + r.a) 0 ∷ []
itself_here c =
    of_itself c.args.out.now.variables (row_said c.args.row) c.args.mark c.requires.assigns (λ e. omega arith) (λ e. omega arith) (λ e. omega arith) (λ e. omega arith) (λ e. omega arith)

pub put-requires-in_default : goal.put-requires-in_default
put-requires-in_default c = rw (itself_here (goal.at.put-requires-in_default c).In_default) at c.requires.room

pub returns-in_default : goal.returns-in_default
returns-in_default c = rw (itself_here (goal.at.returns-in_default c).In_default) c.put-in_default.ensures
