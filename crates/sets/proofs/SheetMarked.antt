-- For an accepted sheet the code's equations are the definitions', with the partners that were found and the marks that were written.
use Prim.Native.Nat.{ℕ, suc, ◌+◌, ◌≤◌, ◌<◌}
use native.Mathlib.Omega.{arith}
use mathlib.Core.Path.{◌≡◌, refl, sym, ap, subst, ◌∙◌}
use mathlib.Core.Bool.{false}
use mathlib.Core.List.{List, [], ◌∷◌}
use lib.ListN.{length, get_or, take, drop, replicate, length-map}
use Rattle.sheet.specs.Bounds.{limit}
use Rattle.sheet.specs.Tree.{Tree, rows, flat, basic}
use Rattle.sheet.specs.Rows.{Assignment, Test}
use Rattle.sheet.specs.Rows.{SheetLine, sheet_row_of, tree_rows, is_independent, is_dependent}
use Rattle.sheet.specs.Sheets.{Sheet, rows_at, variables_of}
use Rattle.sheet.proofs.RowsCounted.{rows_counted, lines_counted}
use Rattle.sheet.proofs.ReadingParts.{accepted, same_given}
use Rattle.sheet.proofs.TreeOfRows.{tree_of_rows}
use Rattle.sheet.proofs.NamesPresent.{count_judged, counts, names_present}
use Rattle.sets.specs.Inner.Analyses.{Which, Varied, Useful, Required, inactive}
use Rattle.sets.specs.VariableSets.{VariableSet, empty, places}
use Rattle.sets.specs.Equations.{Equation, starts}
use Rattle.sets.specs.Inner.ProperEquations.{Proper}
use Rattle.sets.specs.Transfers.{varied_after, useful_before, required_after, Activity}
use Rattle.sets.specs.Rounds.{points, set_at, least, varied, useful, required}
use Rattle.sets.specs.Marks.{varied_equations, useful_equations, required_equations, activity_at}
use Rattle.sets.specs.Partners.{CameFrom, GoesTo, came_by, goes_by}
use Rattle.sets.specs.Inner.PartnerPass.{found, PartnersFound}
use Rattle.sets.specs.Inner.RowEquations.{given_by, line_in, unasked, known_of_line, known_from, turn_of, equation_of, equation_in, row_in_turn}
use Rattle.sets.specs.Inner.RowEquations.{row_equations, start_of, all_equations, AllReadable, seed_in}
use Rattle.sets.specs.Inner.Walks.{Wired, Settles}
use Rattle.sets.specs.Inner.Masks.{mask_bits}
use Rattle.sets.specs.MarkBytes.{mark_bytes}
use Rattle.sets.specs.Inner.RowBytes.{bytes_of, written}
use Rattle.sets.specs.declared.Ends.{Ends}
use Rattle.sets.specs.Calls.{ends_at, ends_of}
use Rattle.sets.specs.Inner.Laid.{Laid, MarksLeft, AllMarked, EndsFound}
use Rattle.sets.proofs.RowByRow.{LinesAt, forward_listed, backward_listed}
use Rattle.sets.proofs.SheetRows.{lines_at, rows_readable}
use Rattle.sets.proofs.PartnersRight.{passed_over}
use Rattle.sets.proofs.Wiring.{Placed, placed, varied_wired, useful_wired, required_wired}
use Rattle.sets.proofs.MarkByteLaws.{written_same}
use Rattle.sets.proofs.MarksListed.{marks_listed}
use Rattle.sets.proofs.SetsLeast.{varied_proper, useful_proper, required_proper}

nothing_placed : {A : Type 0} (xs : List A) → places (λ x. false) xs ≡ empty
unfolding places
nothing_placed [] = refl
nothing_placed (x ∷ xs) = omega (arith, nothing_placed xs)

module _ (words : List ℕ) (variables first count : ℕ) (laid : Laid words variables first count) where
  pub record Facts : Type 0 where
    pub readable : AllReadable words first count
    pub lines : LinesAt (line_in words first) laid.sheet.body 0
    pub few_rows : count ≤ limit.rows
    pub variables_small : variables ≤ mask_bits
    pub roles_there : variables < length words
    pub roles : laid.sheet.roles ≡ take variables (drop 1 words)

  pub facts : Facts
  unfolding tree_rows
  facts =
      let sheet = laid.sheet in
      let parts = accepted words sheet laid.accepted in
      let counted = counts words sheet parts in
      let vs = count_judged words 0 limit.fewest_variables limit.variables 1 parts.v parts.variables in
      let ks = count_judged words (1 + parts.v) 0 limit.constants 1 parts.k parts.constant_count in
      let ns = count_judged words (1 + parts.v + 1 + parts.k) 0 limit.rows limit.row_words parts.n parts.row_count in
      let vars : variables ≡ parts.v = laid.variables_are ∙ counted.variables in
      let few_variables : length sheet.roles ≤ mask_bits = omega (arith, counted.not_too_many) in
      let few_constants : length sheet.constants ≤ mask_bits = omega (arith, counted.constants, ks.most) in
      let at : suc (1 + parts.v + 1 + parts.k) ≡ first = omega (arith, laid.first_is, counted.variables, counted.constants) in
      let says : tree_rows sheet.body ≡ rows_at words first parts.n =
      (tree_of_rows words sheet laid.accepted).says ∙ parts.rows ∙ ap (λ p. rows_at words p parts.n) at in
      let size : rows sheet.body ≡ parts.n =
      sym (lines_counted sheet.body) ∙ sym (length-map (flat sheet.body []) sheet_row_of) ∙ ap length says
      ∙ rows_counted words first parts.n in
      let few : count ≤ limit.rows = omega (arith, laid.rows_are, size, ns.most) in
      let present = names_present words sheet laid.accepted in
      record {
        readable = λ p h.
            rows_readable _ _ few_variables few_constants words first parts.n sheet.body says present p (omega (arith, laid.rows_are))
            (omega arith) (omega (arith, laid.rows_are, size, at, ns.there));
        lines = lines_at words first parts.n sheet.body says;
        few_rows = few;
        variables_small = omega (arith, vars, vs.most);
        roles_there = omega (arith, vars, vs.there);
        roles = parts.roles ∙ ap (λ n. take n (drop 1 words)) (sym vars);
      }

  pub record PartnersAre (came goes came' goes' : List ℕ) : Type 0 where
    pub came_from : CameFrom came' laid.sheet.body 0
    pub goes_to : GoesTo goes' laid.sheet.body 0
    pub came_is : came' ≡ came_by laid.sheet.body 0 came
    pub goes_is : goes' ≡ goes_by laid.sheet.body 0 goes

  pub partners_right : (came goes came' goes' : List ℕ) → PartnersFound (line_in words first) count came goes came' goes' → count ≤ length came
      → count ≤ length goes → PartnersAre came goes came' goes'
  partners_right came goes came' goes' pass lc lg =
      let passed = rw (sym laid.rows_are) at
      (passed_over (line_in words first) laid.sheet.body 0 (found 0 came goes) facts.lines (omega (arith, laid.rows_are))
      (omega (arith, laid.rows_are))) in
      record {
        came_from = rw pass.0 passed.came;
        goes_to = rw pass.1 passed.goes;
        came_is = pass.0 ∙ passed.came_is;
        goes_is = pass.1 ∙ passed.goes_is;
      }

module _ {words : List ℕ} {variables first count : ℕ} (laid : Laid words variables first count) where
  abbrev sheet : Sheet
  sheet = laid.sheet

  abbrev body : Tree Assignment Test
  body = laid.sheet.body

  abbrev line : ℕ → SheetLine
  line = line_in words first

  abbrev known : Facts words variables first count laid
  known = facts words variables first count laid

  -- ---- the code's equations, with partners for each row, are the definitions'

  abbrev code_equations : Which → (ℕ → Activity) → (partners : List ℕ) → List Equation
  code_equations which activity partners = all_equations which (given_by words first activity partners) count (seed_in which words variables)

  code_rows : (which : Which) (activity : ℕ → Activity) (partners : List ℕ) → code_equations which activity partners
      ≡ all_equations which (given_by words first activity partners) (rows body) (seed_in which words variables)
  code_rows which activity partners = ap (λ n. all_equations which (given_by words first activity partners) n (seed_in which words variables)) laid.rows_are

  varied_all : (partners : List ℕ) → CameFrom partners body 0 → code_equations Varied unasked partners ≡ varied_equations sheet
  unfolding all_equations row_equations row_in_turn start_of equation_in equation_of turn_of seed_in varied_equations
  varied_all partners c =
      code_rows Varied unasked partners ∙ rw (sym known.roles)
      (ap (λ es. starts 0 (places is_independent sheet.roles) ∷ es)
      (forward_listed line partners (λ p. turn_of Varied inactive) (λ p. varied_after) (rows body) (λ p b h e. refl) body (omega arith)
      known.lines c))

  useful_all : (partners : List ℕ) → GoesTo partners body 0 → code_equations Useful unasked partners ≡ useful_equations sheet
  unfolding all_equations row_equations row_in_turn start_of equation_in equation_of turn_of seed_in useful_equations
  useful_all partners c =
      code_rows Useful unasked partners ∙ rw (sym known.roles)
      (ap (λ es. starts (rows body) (places is_dependent sheet.roles) ∷ es)
      (backward_listed line partners (λ p. turn_of Useful inactive) (λ p. useful_before) (rows body) (λ p b h e. refl) body (omega arith)
      known.lines c))

  -- what is known of each row, by the first two sets
  known_said : (v u : List VariableSet) (p : ℕ) (b : Assignment) → line p ≡ basic b
      → known_from words first v u p ≡ activity_at (set_at v) (set_at u) p b
  unfolding known_of_line activity_at
  known_said v u p b e = rw e

  required_all : (partners : List ℕ) (v u : List VariableSet) → CameFrom partners body 0
      → code_equations Required (known_from words first v u) partners ≡ required_equations sheet (set_at v) (set_at u)
  unfolding all_equations row_equations row_in_turn start_of equation_in equation_of turn_of seed_in required_equations
  required_all partners v u c =
      code_rows Required (known_from words first v u) partners ∙ rw (nothing_placed (take variables (drop 1 words)))
      (ap (λ es. starts 0 empty ∷ es)
      (forward_listed line partners (λ p. turn_of Required (known_from words first v u p)) (λ p b. required_after b (activity_at (set_at v) (set_at u) p b)) count
      (λ p b h e. ap (required_after b) (known_said v u p b e)) body (omega (arith, laid.rows_are)) known.lines c))

  -- ---- what is asked of the code's walks, and what they come to

  module _ {came goes came' goes' : List ℕ} (right : PartnersAre words variables first count laid came goes came' goes') (came_room : count ≤ length came')
      (goes_room : count ≤ length goes') where
    all_placed : (p : ℕ) → p < count → Placed line came' goes' count p
    all_placed p h =
        placed line came' goes' count body 0 (omega (arith, laid.rows_are)) known.lines right.came_from right.goes_to p (omega arith)
        (omega (arith, laid.rows_are))

    settles : (which : Which) (activity : ℕ → Activity) (es : List Equation) (partners others : List ℕ) (sets : List VariableSet) → sets ≡ replicate (suc count) empty → count ≤ length partners
        → count ≤ length others → code_equations which activity partners ≡ es → Proper (variables_of sheet) (points sheet) es
        → Wired which (given_by words first activity partners) others count
        → Settles which (given_by words first activity partners) others count variables sets
    unfolding points
    settles which activity es partners others sets clear lp lo e proper wired =
        record {
          clear = clear;
          partnered = lp;
          others_there = lo;
          proper = rw (e, laid.variables_are, laid.rows_are) proper;
          wired = wired;
        }

    pub settles_varied : (sets : List VariableSet) → sets ≡ replicate (suc count) empty
        → Settles Varied (given_by words first unasked came') goes' count variables sets
    settles_varied sets clear =
        settles Varied unasked _ came' goes' sets clear came_room goes_room (varied_all came' right.came_from)
        (varied_proper words sheet laid.accepted) (varied_wired words first unasked came' goes' count known.readable all_placed)

    pub settles_useful : (sets : List VariableSet) → sets ≡ replicate (suc count) empty
        → Settles Useful (given_by words first unasked goes') came' count variables sets
    settles_useful sets clear =
        settles Useful unasked _ goes' came' sets clear goes_room came_room (useful_all goes' right.goes_to)
        (useful_proper words sheet laid.accepted) (useful_wired words first unasked came' goes' count known.readable all_placed)

    pub settles_required : (v u sets : List VariableSet) → sets ≡ replicate (suc count) empty
        → Settles Required (given_by words first (known_from words first v u) came') goes' count variables sets
    settles_required v u sets clear =
        settles Required (known_from words first v u) _ came' goes' sets clear came_room goes_room (required_all came' v u right.came_from)
        (required_proper words sheet laid.accepted (set_at v) (set_at u))
        (required_wired words first (known_from words first v u) came' goes' count known.readable all_placed)

  abbrev Settled : Which → (ℕ → Activity) → (partners : List ℕ) → List VariableSet → Type 0
  Settled which activity partners sets = sets ≡ least variables (suc count) (code_equations which activity partners)

  settled_at : (which : Which) (activity : ℕ → Activity) (es : List Equation) (partners : List ℕ) (sets : List VariableSet)
      → code_equations which activity partners ≡ es → Settled which activity partners sets → sets ≡ least (variables_of sheet) (points sheet) es
  unfolding points
  settled_at which activity es partners sets e f = rw (sym laid.variables_are, sym laid.rows_are, sym e) f

  module _ (partners : List ℕ) (sets : List VariableSet) where
    pub varied_settled : CameFrom partners body 0 → Settled Varied unasked partners sets → sets ≡ varied sheet
    unfolding varied
    varied_settled c f = settled_at Varied unasked _ partners sets (varied_all partners c) f

    pub useful_settled : GoesTo partners body 0 → Settled Useful unasked partners sets → sets ≡ useful sheet
    unfolding useful
    useful_settled c f = settled_at Useful unasked _ partners sets (useful_all partners c) f

    pub required_settled : (v u : List VariableSet) → CameFrom partners body 0 → v ≡ varied sheet → u ≡ useful sheet
        → Settled Required (known_from words first v u) partners sets → sets ≡ required sheet
    unfolding required
    required_settled v u c vs us f = rw (sym vs, sym us) (settled_at Required (known_from words first v u) _ partners sets (required_all partners v u c) f)

  -- all marks, whichever sheet the words are said to be
  pub all_marked : (v u r : List VariableSet) (before after : List ℕ) → v ≡ varied sheet → u ≡ useful sheet → r ≡ required sheet
      → after ≡ written (bytes_of v u r line) count before → AllMarked words count v u r before after
  all_marked v u r before after vs us rs wrote other e =
      let same : sheet ≡ other = same_given (sym laid.accepted ∙ e) in
      let listed : written (bytes_of (varied sheet) (useful sheet) (required sheet) line) count before
      ≡ written (λ p. get_or (mark_bytes sheet) p 0) count before =
      written_same _ _ count before (λ i h. marks_listed sheet line known.lines i (omega (arith, laid.rows_are))) in
      subst (λ s. MarksLeft s count v u r before after) same
      (record { varied_left = vs; useful_left = us; required_left = rs; marks_left = wrote ∙ rw (vs, us, rs) listed })

  -- and the sets at its two ends
  pub ends_found : (v u : List VariableSet) (ends : Ends) → v ≡ varied sheet → u ≡ useful sheet → ends ≡ ends_at (set_at v) (set_at u) count
      → EndsFound words ends
  unfolding ends_of
  ends_found v u ends vs us is other e =
      let same : sheet ≡ other = same_given (sym laid.accepted ∙ e) in
      is ∙ ap (λ sets. ends_at (set_at sets) (set_at u) count) vs ∙ ap (λ sets. ends_at (set_at (varied sheet)) (set_at sets) count) us
      ∙ ap (ends_at (set_at (varied sheet)) (set_at (useful sheet))) laid.rows_are ∙ ap ends_of same
