-- Any two results that the contracts of write and write_planned permit coincide.
use Prim.Native.Nat.{ℕ}
use mathlib.Core.Path.{◌≡◌, sym, ap, ◌∙◌}
use mathlib.Core.List.{List}
use Rattle.sheet.specs.Sheets.{Sheet}
use Rattle.sheet.specs.Judging.{given}
use Rattle.sheet.specs.Reading.{read}
use Rattle.table.specs.declared.Reply.{Reply}
use Rattle.table.specs.declared.Plan.{Plan}
use Rattle.table.specs.TableRows.{Table}
use Rattle.table.specs.Sizes.{Needs, Written, written_of}
use Rattle.table.specs.Calls.{write}
use Rattle.table.specs.Inner.Plans.{PlanMadeFor}
use Rattle.writer.specs.Inner.JumpsNoted.{TableNoted}

-- an answer with what the buffer then holds
pub record Left : Type 0 where
  pub answer : Reply
  pub table : List ℕ

left_by : Written → Left
left_by w = record { answer = record { number = w.number; place = w.place }; table = w.table }

-- whatever is written
pub one_left : {written : Written} (left left' : Left) → written_of left.answer left.table ≡ written
    → written_of left'.answer left'.table ≡ written → left ≡ left'
unfolding left_by
one_left left left' e e' = ap left_by (e ∙ sym e')

pub one_write : (words buffer : List ℕ) (left left' : Left) → written_of left.answer left.table ≡ write words buffer
    → written_of left'.answer left'.table ≡ write words buffer → left ≡ left'
one_write words buffer = one_left

-- a planned table's writer, `write_planned`, whose plan says which sheet the words are: the table buffer and the noted jumps
abbrev Writes : (table : Sheet → Table) (words before beyond after beyond_after : List ℕ) → Type 0
Writes table words before beyond after beyond_after = (sheet : Sheet) → read words ≡ given sheet → TableNoted (table sheet) before after beyond beyond_after

pub one_planned_write : {needs : Sheet → Needs} {words : List ℕ} {plan : Plan} {marks came goes : List ℕ} → PlanMadeFor needs words plan marks came goes
    → (table : Sheet → Table) (before beyond after after' beyond_after beyond_after' : List ℕ) → Writes table words before beyond after beyond_after
    → Writes table words before beyond after' beyond_after' → (after ≡ after') × (beyond_after ≡ beyond_after')
one_planned_write made table before beyond after after' beyond_after beyond_after' writes writes' =
    let noted = writes made.sheet made.accepted in
    let noted' = writes' made.sheet made.accepted in
    (noted.words ∙ sym noted'.words, noted.jumps ∙ sym noted'.jumps)
