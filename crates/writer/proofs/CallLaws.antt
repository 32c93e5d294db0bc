-- What writing answers, from what planning says, whatever is needed and whichever table is written; and `write`, by the adjoint table.
use Prim.Native.Nat.{ℕ}
use mathlib.Core.Path.{◌≡◌, subst}
use mathlib.Core.Bool.{true, false}
use mathlib.Core.List.{List}
use lib.ListN.{length}
use lib.Dec.{leb}
use Rattle.sheet.specs.Judging.{refused, given, number_in, place_in}
use Rattle.sheet.specs.Refusals.{Refusal, number_of, place_of, small_table}
use Rattle.sheet.specs.Sheets.{Sheet}
use Rattle.sheet.specs.Reading.{read}
use Rattle.table.specs.declared.Plan.{Plan}
use Rattle.table.specs.TableRows.{Table, table_words}
use Rattle.table.specs.Computed.{table_of, needs_of}
use Rattle.table.specs.Sizes.{Needs, table_room, Written}
use Rattle.table.specs.Calls.{read_for, overwritten, table_in, write_by, write}
use Rattle.table.specs.Inner.Plans.{PlanMadeFor}

module _ (needs : Sheet → Needs) (table : Sheet → Table) (words buffer : List ℕ) where
  pub written_refused : (why : Refusal) (number place : ℕ) → read words ≡ refused why → number ≡ number_of why → place ≡ place_of why
      → ◌≡◌ {A = Written} (record { number = number; place = place; table = buffer }) (write_by needs table words buffer)
  unfolding write_by read_for number_in place_in table_in
  written_refused why number place e n p = rw (e, n, p)

  module _ {plan : Plan} {marks came goes : List ℕ} (made : PlanMadeFor needs words plan marks came goes) where
    pub written_small : leb (table_room plan.rows) (length buffer) ≡ false
        → ◌≡◌ {A = Written} (record { number = number_of small_table; place = 0; table = buffer }) (write_by needs table words buffer)
    unfolding write_by read_for number_in place_in table_in number_of place_of
    written_small short =
        let small = subst (λ n. leb (table_room n) (length buffer) ≡ false) made.planned.rows short in
        rw (made.accepted, small)

    pub written_made : (after : List ℕ) → leb (table_room plan.rows) (length buffer) ≡ true
        → ((s : Sheet) → read words ≡ given s → after ≡ overwritten (table_words (table s)) buffer)
        → ◌≡◌ {A = Written} (record { number = 0; place = 0; table = after }) (write_by needs table words buffer)
    unfolding write_by read_for number_in place_in table_in
    written_made after long wrote =
        let fits = subst (λ n. leb (table_room n) (length buffer) ≡ true) made.planned.rows long in
        rw (made.accepted, fits, wrote made.sheet made.accepted)

pub write_by_lem : (words buffer : List ℕ) {written : Written} → written ≡ write_by needs_of table_of words buffer → written ≡ write words buffer
unfolding write
write_by_lem words buffer e = e
