-- What a sheet that is ready to run offers the engine.
use Prim.Native.Nat.{ℕ, ◌+◌, ◌<◌}
use mathlib.Core.Path.{◌≡◌, sym, ap, subst, ◌∙◌}
use mathlib.Core.List.{List, []}
use mathlib.Core.Option.{some}
use native.Mathlib.Omega.{arith}
use lib.ListN.{length, get_or, get_elem?, drop}
use lib.Seq.{get_or-take, get_or-drop}
use Rattle.sheet.specs.Tree.{rows}
use Rattle.sheet.specs.Sheets.{Sheet, variables_of}
use Rattle.sheet.specs.Answers.{shape_of}
use Rattle.sheet.specs.declared.Shape.{Shape}
use Rattle.sheet.proofs.Depth.{sheet_deep}
use Rattle.sheet.proofs.NamesPresent.{names_present}
use Rattle.sheet.proofs.RowsByNumber.{tree_stands, rows_of_tree}
use Rattle.sets.specs.Marks.{mark_by}
use Rattle.sets.specs.Rounds.{sets_of}
use Rattle.table.specs.Inner.MarkedRows.{RowsReadable}
use Rattle.table.proofs.SheetLaid.{Lies, sheet_lies}
use Rattle.table.proofs.PlanLaws.{readable}
use Rattle.machine.proofs.PlaceLaws.{place_there}
use Rattle.run.proofs.SectionLaws.{Sections, sections}
use Rattle.plain.specs.Inner.Engine.{Found, Ready}
use Rattle.plain.proofs.PlacedTree.{Placed, tree_placed}

pub found_lies : {words : List ℕ} {shape : Shape} {marks goes : List ℕ} (found : Found words shape marks goes) → Lies words found.sheet shape
found_lies {words} found = subst (Lies words found.sheet) (sym found.shape_is) (sheet_lies words found.sheet found.accepted)

pub found_sections : {words : List ℕ} {shape : Shape} {marks goes : List ℕ} (found : Found words shape marks goes) → Sections words shape found.sheet
found_sections {words} {shape} found = sections words shape found.sheet found.accepted found.shape_is

module _ {words : List ℕ} {shape : Shape} {marks goes : List ℕ} (ready : Ready words shape marks goes) where
  abbrev sheet : Sheet
  sheet = ready.found.sheet

  pub ready_lies : Lies words sheet shape
  ready_lies = found_lies ready.found

  pub ready_readable : RowsReadable words shape marks
  ready_readable = readable ready_lies marks ready.marks_there

  pub ready_sections : Sections words shape sheet
  ready_sections = found_sections ready.found

  pub ready_rows : shape.rows ≡ rows sheet.body
  ready_rows = rows_of_tree words shape.first_row shape.rows sheet.body ready_lies.says

  pub ready_constants : length sheet.constants ≡ shape.constants
  unfolding shape_of
  ready_constants = sym (ap (λ (s : Shape). s.constants) ready.found.shape_is)

  -- a constant's word
  pub constant_there : (c : ℕ) → c < length sheet.constants → get_elem? sheet.constants c ≡ some (get_or words (shape.first_constant + c) 0)
  constant_there c h =
      let parts = ready_sections in
      let from = 2 + shape.variables in
      let below : c < shape.constants = omega (arith, ready_constants) in
      let word : get_or sheet.constants c 0 ≡ get_or words (from + c) 0 =
      ap (λ cs. get_or cs c 0) (sym parts.constants_are) ∙ get_or-take shape.constants (drop from words) c 0 below ∙ get_or-drop from words c 0 in
      place_there sheet.constants c 0 h ∙ ap some (word ∙ ap (λ n. get_or words (n + c) 0) (sym parts.first))

  pub ready_placed : Placed words shape.first_row marks goes (mark_by (sets_of sheet)) (variables_of sheet) (length sheet.constants) sheet.body 0 0
  ready_placed =
      tree_placed words shape.first_row marks goes (mark_by (sets_of sheet)) (variables_of sheet) (length sheet.constants) ready.found.came
      sheet.body [] 0 0 (tree_stands words shape.first_row shape.rows sheet.body ready_lies.says) ready.found.noted ready.found.goes_to
      (names_present words sheet ready.found.accepted) (omega (arith, sheet_deep words sheet ready.found.accepted))
