-- `table::count::row_count` meets its contract, by what the row is to the blocks.
use mathlib.Core.Path.{refl, sym}
use mathlib.Core.Logic.{inl, inr}
use native.Mathlib.Omega.{arith}
use Rattle.sheet.specs.Answers.{row_said}
use Rattle.sets.proofs.Seeds.{byte_of}
use Rattle.table.specs.Inner.MarkedRows.{row_with}
use Rattle.table.proofs.LineRows.{says_assigns}
use Rattle.table.proofs.RowCounts.{both_by, saved_first}
use Rattle.table.proofs.count.row_count.Goals as goal

pub assignment_count-requires : goal.assignment_count-requires
assignment_count-requires c = says_assigns c.requires c.in-Assignment.is

pub returns-in-Assignment : goal.returns-in-Assignment
returns-in-Assignment c =
    let back = c.assignment_count.ensures in
    let forward = c.from.ensures in
    record {
      within = omega (arith, back.within, forward, (byte_of c.bit-saved.result).1);
      is = λ v.
          omega (
            arith,
            both_by c.requires c.in-Assignment.is v c.args.mark c.bit-saved.ensures,
            saved_first c.bit-saved.result (row_with 12 c.args.row.d 0 0) (row_said c.args.row),
            forward,
            back.is v,
          );
    }

pub returns-in-If : goal.returns-in-If
returns-in-If c =
    record {
      within = omega arith;
      is = λ v.
          elim c.in-If.is [
            | inl is ↦ sym (both_by c.requires is v c.args.mark refl)
            | inr loop ↦ elim loop [
              | inl is ↦ sym (both_by c.requires is v c.args.mark refl)
              | inr is ↦ sym (both_by c.requires is v c.args.mark refl)
            ]
          ];
    }

pub returns-in-Else : goal.returns-in-Else
returns-in-Else c =
    record {
      within = omega arith;
      is = λ v.
          elim c.in-Else.is [
            | inl is ↦ sym (both_by c.requires is v c.args.mark refl)
            | inr is ↦ sym (both_by c.requires is v c.args.mark refl)
          ];
    }
