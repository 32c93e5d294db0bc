-- The engine's loop: its state goes on from row to row, and ends as the run of the sheet does.
use Prim.Native.Nat.{ℕ, suc, ◌+◌, ◌*◌, ◌-◌, ◌≤◌, ◌<◌}
use Rattle.std.specs.Prelude.{Err, Ok, Result}
use mathlib.Core.Path.{◌≡◌, refl, sym, ap, subst, ◌∙◌}
use mathlib.Core.Bool.{Bool, true, false}
use mathlib.Core.List.{List}
use native.Mathlib.Omega.{arith}
use lib.ListN.{length, get_or, set, length-set}
use Rattle.number.specs.Doubles.{doubles}
use Rattle.sheet.specs.Bounds.{limit}
use Rattle.sheet.specs.Judging.{given}
use Rattle.sheet.specs.Tree.{basic}
use Rattle.sheet.specs.Rows.{Assignment, ◌≔◌, Source, copy, fixed, sum, difference, product, negation, quotient, Row, SheetLine, row_of, row_of_assignment, sheet_row_of, quotient_kind}
use Rattle.sheet.specs.Names.{SourcePresent, AssignmentPresent}
use Rattle.sheet.specs.Sheets.{Sheet, variables_of}
use Rattle.sheet.specs.Reading.{read}
use Rattle.sheet.specs.Inner.RowLines.{line_of_row, SaysLine, numbered_row}
use Rattle.sheet.specs.Inner.Kinds.{part_of, part_for, assigns, turns_in}
use Rattle.sheet.specs.declared.Shape.{Shape}
use Rattle.sheet.specs.declared.kinds.Part.{Part}
use Rattle.sheet.specs.declared.kinds.Part.TheVariants as part
use Rattle.sheet.proofs.ReadingParts.{same_given}
use Rattle.sheet.proofs.LinesByPart.{row_part}
use Rattle.sheet.proofs.RowsByNumber.{line_said}
use Rattle.sheet.proofs.RowsBack.{line_back}
use Rattle.sets.specs.Transfers.{Activity}
use Rattle.sets.specs.Marks.{Marked, mark_by, marked_by}
use Rattle.sets.specs.Rounds.{sets_of}
use Rattle.table.specs.Inner.MarkedRows.{known_by, SaysPart}
use Rattle.table.proofs.LineRows.{target_said}
use Rattle.machine.specs.Actions.{Attempt, through, halted, ◌>>=◌}
use Rattle.tangent.specs.Tangent.{rate_count}
use Rattle.tangent.specs.Inner.TangentPlans.{line_count, table_rows_before}
use Rattle.plain.specs.Plain.{Carried, StopAt, plain_run}
use Rattle.plain.specs.declared.Rated.{Rated}
use Rattle.plain.specs.declared.blocks.At.{At}
use Rattle.plain.specs.Inner.Working.{operand_on, worked_on, worked_said}
use Rattle.plain.specs.Inner.Crossing.{Crossed, at_row, asked_row, crossing, Crossable}
use Rattle.plain.specs.declared.engine.StoppedAt.{StoppedAt}
use Rattle.plain.specs.Inner.Engine.{carried_in, Ready, stop_at, end_said, EndsWithin, RunsTo}
use Rattle.plain.proofs.CarriedOver.{stopping_from, carried_over_lem}
use Rattle.plain.proofs.EngineLaws.{line_here, line_asked, run_at, resume, Going, going_starts, going_line, going_asked, going_left, going_ends, AtAssignment, at_assignment, test_holds, at_block}
use Rattle.plain.proofs.ReadyLaws.{ready_lies, ready_sections, ready_rows, ready_constants, constant_there, ready_placed}

-- ---- the loop's state

module _ {words : List ℕ} {shape : Shape} {marks goes : List ℕ} (ready : Ready words shape marks goes) where
  abbrev its : ℕ → Assignment → Marked
  its = mark_by (sets_of ready.found.sheet)

  abbrev vars : ℕ
  vars = variables_of ready.found.sheet

  abbrev whole_from : List Rated → Attempt (StopAt doubles) (Carried doubles)
  whole_from start =
      run_at words shape.first_row marks goes its vars ready.found.sheet.constants ready.found.sheet.body 0 (carried_in vars start)

  abbrev GoingFrom : (start cells : List Rated) (to_come : List ℕ) (row depth left : ℕ) → Type 0
  GoingFrom start = Going words shape.first_row marks goes its vars ready.found.sheet.constants shape.rows (whole_from start)

pub record Running (words : List ℕ) (shape : Shape) (marks goes : List ℕ) (start cells : List Rated) (to_come : List ℕ) (row depth left : ℕ) : Type 0 where
  pub ready : Ready words shape marks goes
  pub going : GoingFrom ready start cells to_come row depth left

pub running_starts : {words : List ℕ} {shape : Shape} {marks goes : List ℕ} → Ready words shape marks goes → (start : List Rated) (to_come : List ℕ)
    → length start ≡ limit.variables → length to_come ≡ limit.depth
    → Running words shape marks goes start start to_come 0 0 (2 * limit.longest_run)
running_starts {words} {shape} {marks} {goes} ready start to_come cells_room room =
    record {
      ready = ready;
      going =
          subst (λ count. Going words shape.first_row marks goes (its ready) (vars ready) ready.found.sheet.constants count (whole_from ready start)
          start to_come 0 0 (2 * limit.longest_run))
          (sym (ready_rows ready))
          (going_starts words shape.first_row marks goes (its ready) (vars ready) ready.found.sheet.constants ready.found.sheet.body start to_come
          (2 * limit.longest_run) (ready_placed ready) room (omega (arith, (ready_lies ready).short)) cells_room);
    }

module _ {words : List ℕ} {shape : Shape} {marks goes : List ℕ} {start cells : List Rated} {to_come : List ℕ} {row depth left : ℕ}
    (running : Running words shape marks goes start cells to_come row depth left) where
  abbrev mine : Ready words shape marks goes
  mine = running.ready

  abbrev constants : List ℕ
  constants = mine.found.sheet.constants

  abbrev now : GoingFrom mine start cells to_come row depth left
  now = running.going

  abbrev line : SheetLine
  line = line_here now.tree now.frames

  pub running_left : row < shape.rows → 1 ≤ left
  running_left h = going_left words shape.first_row marks goes (its mine) (vars mine) constants now h

  pub running_room : length cells ≡ limit.variables
  running_room = now.cells_room

  pub running_ends : shape.rows ≤ row → whole_from mine start ≡ through (carried_in (vars mine) cells)
  running_ends h = going_ends words shape.first_row marks goes (its mine) (vars mine) constants now h

  few : vars mine ≤ limit.variables
  few = omega (arith, (ready_lies mine).variables, (ready_lies mine).few_variables)

  abbrev RunningAt : (cells : List Rated) (to_come : List ℕ) (row depth : ℕ) → Type 0
  RunningAt cells to_come row depth = Running words shape marks goes start cells to_come row depth (left - 1)

  module _ (below : row < shape.rows) {r : Row} (read : r ≡ numbered_row words shape.first_row row) (says : SaysLine r) {p : Part}
      (found : p ≡ part_for r.kind) where
    said_line : r ≡ sheet_row_of line
    said_line = read ∙ going_line words shape.first_row marks goes (its mine) (vars mine) constants now below

    part_is : p ≡ part_of line
    part_is = found ∙ sym (row_part says) ∙ ap part_of (line_said said_line)

    -- ---- a block's row

    abbrev GoesAsked : Part → Type 0
    GoesAsked q =
        (asked_row q goes row < shape.rows) × (numbered_row words shape.first_row (asked_row q goes row) ≡ sheet_row_of (line_asked now.tree now.frames))

    goes_asked : GoesAsked p
    goes_asked =
        subst GoesAsked (sym part_is) (going_asked words shape.first_row marks goes (its mine) (vars mine) constants now below)

    pub asked_below : asked_row p goes row < shape.rows
    asked_below = goes_asked.0

    -- the row that is asked, and the pairs that its words name
    module _ (block : assigns p ≡ false) {asked : Row} (asked_read : asked ≡ numbered_row words shape.first_row (asked_row p goes row)) (x y z : Rated)
        (at_a : asked.a < limit.variables → x ≡ get_or cells asked.a z) (at_b : asked.b < limit.variables → y ≡ get_or cells asked.b z) {holds : Bool}
        (test : holds ≡ doubles.less x.value y.value) where
      asked_line : asked ≡ sheet_row_of (line_asked now.tree now.frames)
      asked_line = asked_read ∙ goes_asked.1

      both : Crossable (part_of line) (turns_in asked) depth (length to_come)
          × Going words shape.first_row marks goes (its mine) (vars mine) constants shape.rows (whole_from mine start) cells
          (crossing (part_of line) asked holds goes to_come (at_row row depth)).to_come
          (crossing (part_of line) asked holds goes to_come (at_row row depth)).at.row.0
          (crossing (part_of line) asked holds goes to_come (at_row row depth)).at.depth (left - 1)
      both =
          at_block words shape.first_row marks goes (its mine) (vars mine) constants now below asked holds (ap assigns (sym part_is) ∙ block) asked_line
          (test_holds words shape.first_row marks goes (its mine) (vars mine) constants now few x y z test
          (subst (λ (s : Row). s.a < limit.variables → x ≡ get_or cells s.a z) asked_line at_a)
          (subst (λ (s : Row). s.b < limit.variables → y ≡ get_or cells s.b z) asked_line at_b))

      pub crosses : Crossable p (turns_in asked) depth (length to_come)
      crosses = subst (λ q. Crossable q (turns_in asked) depth (length to_come)) (sym part_is) both.0

      pub goes_across : (next : At) (to_come' : List ℕ)
          → ◌≡◌ {A = Crossed} (record { at = next; to_come = to_come' }) (crossing p asked holds goes to_come (at_row row depth))
          → RunningAt cells to_come' next.row.0 next.depth
      goes_across next to_come' e =
          let is : ◌≡◌ {A = Crossed} (record { at = next; to_come = to_come' }) (crossing (part_of line) asked holds goes to_come (at_row row depth)) =
          e ∙ ap (λ q. crossing q asked holds goes to_come (at_row row depth)) part_is in
          record {
            ready = mine;
            going =
                subst
                (λ (c : Crossed). Going words shape.first_row marks goes (its mine) (vars mine) constants shape.rows (whole_from mine start) cells c.to_come
                c.at.row.0 c.at.depth (left - 1))
                (sym is) both.1;
          }

    -- ---- an assignment

    module _ (assigning : assigns p ≡ true) where
      abbrev here : AtAssignment words shape.first_row marks goes (its mine) (vars mine) constants shape.rows (whole_from mine start) cells to_come row depth left
      here = at_assignment words shape.first_row marks goes (its mine) (vars mine) constants now (ap assigns (sym part_is) ∙ assigning)

      abbrev target : ℕ
      target = here.d

      abbrev reads : Source
      reads = here.source

      row_is : r ≡ sheet_row_of (basic (target ≔ reads))
      row_is = read ∙ here.at.stands

      pub says_assignment : SaysPart r part.Assignment
      says_assignment = record { says = says; is = ap part_of (sym (line_said row_is)) }

      pub constant_within : r.kind ≡ 2 → shape.first_constant + r.a < length words
      unfolding AssignmentPresent SourcePresent sheet_row_of row_of row_of_assignment
      constant_within kind = by reads row_is here.at.present
        where
          other : (k : ℕ) → r.kind ≡ k → (k ≡ 2 → ⊥) → shape.first_constant + r.a < length words
          other k e not = absurd (not (sym e ∙ kind))

          by : (source : Source) → r ≡ sheet_row_of (basic (target ≔ source)) → AssignmentPresent (vars mine) (length constants) (target ≔ source)
              → shape.first_constant + r.a < length words
          by (copy a) e present = other 1 (ap (λ (s : Row). s.kind) e) (λ f. omega arith)
          by (fixed c) e present =
              let parts = ready_sections mine in
              omega (arith, ap (λ (s : Row). s.a) e, present.1, ready_constants mine, parts.first, parts.constants_within)
          by (sum a b) e present = other 3 (ap (λ (s : Row). s.kind) e) (λ f. omega arith)
          by (difference a b) e present = other 4 (ap (λ (s : Row). s.kind) e) (λ f. omega arith)
          by (product a b) e present = other 5 (ap (λ (s : Row). s.kind) e) (λ f. omega arith)
          by (negation a) e present = other 6 (ap (λ (s : Row). s.kind) e) (λ f. omega arith)
          by (quotient a b) e present = other quotient_kind (ap (λ (s : Row). s.kind) e) (λ f. omega arith)

      abbrev known : Activity
      known = known_by (get_or marks row 0)

      abbrev table_row : ℕ
      table_row = table_rows_before words shape.first_row marks row

      -- what the code works out, and what it is to the whole
      module _ (x y z : Rated) (at_a : r.a < limit.variables → x ≡ get_or cells r.a z) (at_b : r.b < limit.variables → y ≡ get_or cells r.b z)
          (answer : Result Rated ℕ)
          (works : worked_said answer
          ≡ worked_on r.kind known (line_count known (line_of_row r) - 1) (operand_on words shape.first_constant r.kind r.a x) y) where
        abbrev its_row : Row
        its_row = sheet_row_of (basic (target ≔ reads))

        works_out : worked_said answer
            ≡ worked_on its_row.kind known (rate_count reads known) (operand_on words shape.first_constant its_row.kind its_row.a x) y
        works_out =
            let of_row =
            subst
            (λ (s : Row). worked_said answer
            ≡ worked_on s.kind known (line_count known (line_of_row s) - 1) (operand_on words shape.first_constant s.kind s.a x) y)
            row_is works in
            let counted : line_count known (line_of_row its_row) - 1 ≡ rate_count reads known =
            ap (λ l. line_count known l - 1) (line_back (basic (target ≔ reads))) ∙ omega arith in
            of_row ∙ ap (λ n. worked_on its_row.kind known n (operand_on words shape.first_constant its_row.kind its_row.a x) y) counted

        comes : whole_from mine start
            ≡ ((stopping_from table_row (worked_said answer) >>= λ pair. through (carried_in (vars mine) (set cells target pair)))
            >>= λ next. run_at words shape.first_row marks goes (its mine) (vars mine) constants here.rest (suc row) next
            >>= resume words shape.first_row marks goes (its mine) (vars mine) constants here.frames)
        comes =
            here.is
            ∙ ap
            (λ m. m >>= λ next. run_at words shape.first_row marks goes (its mine) (vars mine) constants here.rest (suc row) next
            >>= resume words shape.first_row marks goes (its mine) (vars mine) constants here.frames)
            (carried_over_lem words constants shape.first_constant (constant_there mine) (vars mine) cells few (omega (arith, few, now.cells_room)) z target reads
            known table_row x y here.at.present (subst (λ (s : Row). s.a < limit.variables → x ≡ get_or cells s.a z) row_is at_a)
            (subst (λ (s : Row). s.b < limit.variables → y ≡ get_or cells s.b z) row_is at_b)
            ∙ ap (λ w. stopping_from table_row w >>= λ pair. through (carried_in (vars mine) (set cells target pair))) (sym works_out))

        pub goes_assigned : {pair : Rated} → answer ≡ Ok pair → (to : ℕ) → (r.d < limit.variables → to ≡ r.d)
            → RunningAt (set cells to pair) to_come (row + 1) depth
        unfolding AssignmentPresent
        goes_assigned {pair} told to names =
            let own : target ≡ r.d = target_said says_assignment target reads (line_said row_is) in
            let there : to ≡ target = names (omega (arith, here.at.present.0, few)) ∙ sym own in
            rw there
            (record { ready = mine; going = here.on (set cells target pair) (length-set cells target pair ∙ now.cells_room) (rw told at comes) })

        pub stops_assigned : {n : ℕ} → answer ≡ Err n → whole_from mine start ≡ halted (stop_at (table_row + n))
        stops_assigned told = rw told at comes

-- ---- its end

module _ {words : List ℕ} {shape : Shape} {marks goes : List ℕ} (ready : Ready words shape marks goes) (start : List Rated) where
  -- by what it comes to, for whichever sheet the words are said to be
  whole_is : (sheet : Sheet) → read words ≡ given sheet
      → plain_run doubles (variables_of sheet) sheet.constants (marked_by (sets_of sheet) sheet) 0 (carried_in (variables_of sheet) start) ≡ whole_from ready start
  unfolding marked_by table_rows_before
  whole_is sheet e =
      subst
      (λ (s : Sheet). plain_run doubles (variables_of s) s.constants (marked_by (sets_of s) s) 0 (carried_in (variables_of s) start) ≡ whole_from ready start)
      (same_given (sym ready.found.accepted ∙ e)) refl

  pub runs_to : (ran : Result (List Rated) StoppedAt) → EndsWithin shape ran
      → whole_from ready start ≡ end_said (variables_of ready.found.sheet) (table_rows_before words shape.first_row marks) ran
      → RunsTo words shape marks start ran
  runs_to ran within comes =
      record {
        within = within;
        ends = λ sheet e.
            whole_is sheet e ∙ comes
            ∙ ap (λ (s : Sheet). end_said (variables_of s) (table_rows_before words shape.first_row marks) ran)
            (same_given (sym ready.found.accepted ∙ e));
      }
