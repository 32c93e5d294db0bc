-- The sections of an accepted sheet in its words, as the call hands them to the runner.
use Prim.Native.Nat.{ℕ, suc, ◌+◌, ◌*◌, ◌-◌, ◌≤◌}
use mathlib.Core.Path.{◌≡◌, sym, ap, ◌∙◌}
use mathlib.Core.Bool.{Bool}
use mathlib.Core.List.{List}
use native.Mathlib.Omega.{arith}
use lib.ListN.{length, take, drop, replicate, length-drop, length-replicate, replicate-append-replicate}
use lib.Seq.{length-take-le, take_at}
use Rattle.number.specs.Arithmetic.{Arithmetic}
use Rattle.sheet.specs.Bounds.{limit}
use Rattle.sheet.specs.Judging.{given}
use Rattle.sheet.specs.Tree.{rows}
use Rattle.sheet.specs.Sheets.{Sheet}
use Rattle.sheet.specs.Reading.{read}
use Rattle.sheet.specs.Answers.{shape_of}
use Rattle.sheet.specs.declared.Shape.{Shape}
use Rattle.sheet.proofs.RowsCounted.{lines_counted}
use Rattle.sheet.proofs.ReadingParts.{accepted}
use Rattle.sheet.proofs.NamesPresent.{counts, count_judged}
use Rattle.table.specs.RowBounds.{table_variables, most_table_rows}
use Rattle.table.specs.TableRows.{Table, lines_of}
use Rattle.table.specs.Sizes.{Needs}
use Rattle.table.specs.declared.Plan.{Plan}
use Rattle.table.specs.Inner.Plans.{PlanMadeFor}
use Rattle.writer.specs.Inner.JumpsNoted.{TableNoted}
use Rattle.machine.specs.Inner.RowsHanded.{Holds, Indexed}
use Rattle.run.specs.Inner.CallSteps.{HasRoom}
use Rattle.run.specs.Inner.CallAnswers.{TableInPlace, SheetRoom, Ready, RunRoom}
use Rattle.run.proofs.JumpsRight.{jumps_right}
use Rattle.run.proofs.TableHeld.{table_holds}
use Rattle.run.proofs.KnownNames.{KnownIn, known_indexed}

-- the first of so many zeros are zeros
take_zeros : {X : Type 0} (n m : ℕ) (zero : X) → n ≤ m → take n (replicate m zero) ≡ replicate n zero
take_zeros n m zero h =
    let split : m ≡ n + (m - n) = omega arith in
    ap (λ k. take n (replicate k zero)) split ∙ ap (take n) (sym (replicate-append-replicate n (m - n) zero))
    ∙ take_at (replicate n zero) (replicate (m - n) zero) n (length-replicate n zero)

pub record Sections (words : List ℕ) (shape : Shape) (sheet : Sheet) : Type 0 where
  pub few : shape.variables ≤ limit.variables
  pub few_constants : shape.constants ≤ limit.constants
  pub first : shape.first_constant ≡ 2 + shape.variables
  pub constants_within : 2 + shape.variables + shape.constants ≤ length words
  pub roles_are : take shape.variables (drop 1 words) ≡ sheet.roles
  pub constants_are : take shape.constants (drop (2 + shape.variables) words) ≡ sheet.constants

pub sections : (words : List ℕ) (shape : Shape) (sheet : Sheet) → read words ≡ given sheet → shape ≡ shape_of sheet → Sections words shape sheet
unfolding shape_of
sections words shape sheet read is =
    let parts = accepted words sheet read in
    let counted = counts words sheet parts in
    let ks = count_judged words (1 + parts.v) 0 limit.constants 1 parts.k parts.constant_count in
    let v : shape.variables ≡ parts.v = ap (λ (s : Shape). s.variables) is ∙ counted.variables in
    let k : shape.constants ≡ parts.k = ap (λ (s : Shape). s.constants) is ∙ counted.constants in
    let place : suc (1 + parts.v) ≡ 2 + parts.v = omega arith in
    record {
      few = omega (arith, counted.not_too_many, counted.variables);
      few_constants = omega (arith, ks.most);
      first = ap (λ (s : Shape). s.first_constant) is ∙ ap (λ n. 2 + n) (sym (ap (λ (s : Shape). s.variables) is));
      constants_within = omega (arith, ks.there);
      roles_are = rw v (sym parts.roles);
      constants_are = rw (v, k) (ap (λ n. take parts.k (drop n words)) (sym place) ∙ sym parts.constants);
    }

-- what the plan's lengths leave room for
pub sheet_room : {X : Type 0} {divides : Bool} {needs : Sheet → Needs} {words : List ℕ} {t n m : ℕ} {marks came goes : List ℕ} {plan : Plan} (starts seeds result : List X)
    → HasRoom divides needs words
    (record { table = t; values = n; turns = m; starts = length starts; seeds = length seeds; result = length result }) marks came goes plan
    → SheetRoom words plan starts seeds result
sheet_room {words = words} {plan = plan} starts seeds result room =
    let made = room.made in
    let parts = sections words plan.shape made.sheet made.accepted made.planned.shape in
    record {
      few = parts.few;
      few_constants = parts.few_constants;
      first = parts.first;
      within = parts.constants_within;
      starts_fit = room.starts_fit;
      seeds_fit = room.seeds_fit;
      result_fits = room.result_fits;
    }

module _ (words : List ℕ) (plan : Plan) where
  abbrev shape : Shape
  shape = plan.shape

  abbrev roles_part : List ℕ
  roles_part = take (1 + shape.variables - 1) (drop 1 words)

  abbrev constants_part : List ℕ
  constants_part = take (shape.first_constant + shape.constants - shape.first_constant) (drop shape.first_constant words)

  -- the first places of arrays of zeros that are large enough for any sheet
  pub run_room : (A : Arithmetic) {starts seeds result : List A.Carrier} → SheetRoom words plan starts seeds result
      → RunRoom A roles_part starts seeds (take (table_variables shape.variables) (replicate (table_variables limit.variables) A.zero))
      (take shape.variables (replicate limit.variables A.zero)) result
  run_room A room =
      let v = shape.variables in
      let few = room.few in
      let within = room.within in
      let part : 1 + v - 1 ≡ v = omega arith in
      let roles : length roles_part ≡ v =
      ap (λ n. length (take n (drop 1 words))) part ∙ length-take-le v (drop 1 words) (omega (arith, length-drop 1 words)) in
      let many = table_variables limit.variables in
      let store = length-take-le (table_variables v) (replicate many A.zero) (omega (arith, length-replicate many A.zero)) in
      let copied = length-take-le v (replicate limit.variables A.zero) (omega (arith, length-replicate limit.variables A.zero)) in
      record {
        starts_fit = room.starts_fit ∙ sym roles;
        seeds_fit = room.seeds_fit ∙ sym roles;
        store_fits = store ∙ ap table_variables (sym roles);
        zeros = rw store (take_zeros (table_variables v) many A.zero (omega arith));
        copied_fits = copied ∙ sym roles;
        result_fits = room.result_fits ∙ ap (λ n. 2 * n) (sym roles);
      }

  -- every variable and constant that the table's straight rows name is in these places, and among the sheet's constants
  pub part_indexed : (A : Arithmetic) {starts seeds result : List A.Carrier} {table : List ℕ} → SheetRoom words plan starts seeds result
      → Indexed table plan.rows (table_variables shape.variables) shape.constants
      → Indexed table plan.rows (length (take (table_variables shape.variables) (replicate (table_variables limit.variables) A.zero)))
      (length constants_part)
  part_indexed A room indexed =
      let few = room.few in
      let within = room.within in
      let first = shape.first_constant in
      let many = table_variables limit.variables in
      let store =
      length-take-le (table_variables shape.variables) (replicate many A.zero) (omega (arith, length-replicate many A.zero)) in
      let part : first + shape.constants - first ≡ shape.constants = omega arith in
      let constants : length constants_part ≡ shape.constants =
      ap (λ n. length (take n (drop first words))) part
      ∙ length-take-le shape.constants (drop first words) (omega (arith, length-drop first words, room.first)) in
      rw (store, constants) indexed

  pub place_indexed : {its : Table} {table beyond : List ℕ} {sheet : Sheet} {buffer : List ℕ}
      → KnownIn (length sheet.roles) (length sheet.constants) its → TableInPlace its words plan table beyond sheet buffer
      → Indexed table plan.rows (table_variables shape.variables) shape.constants
  unfolding lines_of shape_of
  place_indexed {its} {table} {sheet = sheet} {buffer} known written =
      let holds : Holds table (lines_of its) = rw written.written (table_holds its buffer) in
      let counted : length (lines_of its) ≡ plan.rows = lines_counted its ∙ sym written.rows in
      rw (sym counted, written.shape) (known_indexed (length sheet.roles) (length sheet.constants) its known table holds)

  pub ready_to_run : {its : Table} {table beyond : List ℕ} {sheet : Sheet} {buffer : List ℕ} → TableInPlace its words plan table beyond sheet buffer
      → Ready its sheet roles_part constants_part table plan.rows beyond
  unfolding lines_of
  ready_to_run {its} {table} {sheet = sheet} {buffer} written =
      let parts = sections words shape sheet written.accepted written.shape in
      let first = shape.first_constant in
      let roles : 1 + shape.variables - 1 ≡ shape.variables = omega arith in
      let constants : first + shape.constants - first ≡ shape.constants = omega arith in
      record {
        words = words;
        accepted = written.accepted;
        roles_are = ap (λ n. take n (drop 1 words)) roles ∙ parts.roles_are;
        constants_are =
            ap (λ n. take n (drop first words)) constants ∙ ap (λ n. take shape.constants (drop n words)) parts.first ∙ parts.constants_are;
        holds = rw written.written (table_holds its buffer);
        counted = lines_counted its ∙ sym written.rows;
        jumps = written.jumps;
      }

-- a table of a planned sheet that has been written over a buffer, and its jumps over zeros
pub table_in_place : {needs : Sheet → Needs} {words : List ℕ} {plan : Plan} {marks came goes : List ℕ} (made : PlanMadeFor needs words plan marks came goes)
    (its : Table) → (needs made.sheet).rows ≡ rows its → rows its ≤ most_table_rows
    → {buffer table beyond : List ℕ} → TableNoted its buffer table (replicate most_table_rows 0) beyond
    → TableInPlace its words plan table beyond made.sheet buffer
table_in_place made its counted few {beyond = beyond} noted =
    let zeros : List ℕ = replicate most_table_rows 0 in
    record {
      accepted = made.accepted;
      shape = made.planned.shape;
      rows = made.planned.rows ∙ counted;
      written = noted.words;
      jumps = jumps_right its zeros beyond (omega (arith, few, length-replicate {A = ℕ} most_table_rows 0)) noted.jumps;
    }
