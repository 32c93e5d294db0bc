-- Whole runs of an accepted sheet, by any sets: the machine on the tangent table ends where the plain engine is through, with the same result, and
-- stops at the very row that the plain engine's stop names. It never sticks, and never goes on.
use Prim.Native.Nat.{ℕ, ◌≤◌}
use mathlib.Core.Path.{◌≡◌, refl, sym, ap, subst, ◌∙◌}
use mathlib.Core.Bool.{Bool, false, cond}
use mathlib.Core.List.{List, [], ◌∷◌, ◌++◌, append_assoc}
use lib.ListN.{length, take}
use lib.Seq.{take_at, drop_at}
use native.Mathlib.Omega.{arith}
use Rattle.number.specs.Arithmetic.{Arithmetic, divides}
use Rattle.sheet.specs.Tree.{RowNumber}
use Rattle.sheet.specs.Rows.{is_dependent, is_independent}
use Rattle.sheet.specs.Sheets.{Sheet, variables_of}
use Rattle.sheet.proofs.NamesPresent.{names_present}
use Rattle.sheet.proofs.Feasibility.{ReadFor}
use Rattle.sets.specs.Marks.{Sets, mark_by, marked_by}
use Rattle.machine.specs.Actions.{through, halted, stuck, Memory, Setting, Stop, counting}
use Rattle.machine.specs.Machine.{State, Step, goes_on, ended, stops, sticks}
use Rattle.machine.proofs.RoleLaws.{counting_length}
use Rattle.run.specs.Runs.{setting_keeping, run_of}
use Rattle.run.proofs.RowsInTheLarge.{ResultAt}
use Rattle.run.proofs.MachineFollows.{at_row, EndsAt, run_follows_at}
use Rattle.run.proofs.KnownNames.{BodyKnown, body_known}
use Rattle.tangent.specs.Tangent.{tangent_by}
use Rattle.tangent.specs.TangentRuns.{starting_rates, tangent_setting, tangent_start, tangent_result}
use Rattle.tangent.proofs.TangentBounds.{tangent_short}
use Rattle.plain.specs.Plain.{Carried, plain_by, plain_result}
use Rattle.plain.proofs.FeasibleBodies.{BodyFeasible, body_feasible}
use Rattle.plain.proofs.CarriedStores.{Sized, store_of}
use Rattle.plain.proofs.EnginesAgree.{CarriedResult, memory_of, Agree, both_go, both_stop, agrees, body_unstuck}

-- only as many numbers are read as there are roles
counting_front : (A : Arithmetic) (counts : ℕ → Bool) (roles : List ℕ) (numbers beyond : List A.Carrier) → length roles ≤ length numbers
    → counting A counts roles (numbers ++ beyond) ≡ counting A counts roles numbers
unfolding counting
counting_front A counts [] numbers beyond enough = refl
counting_front A counts (role ∷ roles) [] beyond enough = absurd (omega arith)
counting_front A counts (role ∷ roles) (x ∷ numbers) beyond enough =
    ap (λ l. cond (counts role) x A.zero ∷ l) (counting_front A counts roles numbers beyond (omega arith))

module _ (A : Arithmetic) where
  -- how the machine's run and the plain engine's end
  pub data SameEnd (sheet : Sheet) (out : Step A) (carried : CarriedResult A) : Type 0 where
    both_end : (memory : Memory A) (now : Carried A) → out ≡ ended memory → carried ≡ through now → take (variables_of sheet) memory.store ≡ now.values
        → tangent_result A sheet memory ≡ plain_result A sheet now → SameEnd sheet out carried
    both_halt : (row : RowNumber) (stop : Stop A) → out ≡ stops row stop → carried ≡ halted (record { row = row; why = stop.why })
        → SameEnd sheet out carried

  module _ (sheet : Sheet) (starts rates : List A.Carrier) where
    abbrev v : ℕ
    v = variables_of sheet

    -- what is carried at the start
    abbrev first : Carried A
    first = record { values = starts; rates = starting_rates A sheet.roles rates }

    abbrev begins : Memory A
    begins = (tangent_start A sheet starts rates).memory

    abbrev setting : Setting A
    setting = tangent_setting A sheet rates

    nothing_kept : setting.keeps_counts ≡ false
    unfolding tangent_setting setting_keeping
    nothing_kept = refl

    start_is : tangent_start A sheet starts rates ≡ at_row A 0 [] (memory_of A v begins first A.zero A.zero)
    unfolding tangent_start
    start_is =
        ap (λ store. at_row A 0 [] (record { store = store; values = []; turns = []; copied = [] }))
        (append_assoc starts (starting_rates A sheet.roles rates) (A.zero ∷ A.zero ∷ []))

    first_sized : length starts ≡ v → Sized A v first
    first_sized many = record { values = many; rates = counting_length A is_independent sheet.roles rates }

    values_left : (now : Carried A) (x y : A.Carrier) → Sized A v now → take v (store_of A v now x y) ≡ now.values
    values_left now x y sized = take_at now.values _ v sized.values

    -- "the result is the V values and then each dependent's rate, 0 at others"
    same_result_lem : (left : Memory A) (now : Carried A) (x y : A.Carrier) → Sized A v now
        → tangent_result A sheet (memory_of A v left now x y) ≡ plain_result A sheet now
    unfolding tangent_result plain_result
    same_result_lem left now x y sized =
        let many = sized.rates in
        rw (values_left now x y sized, drop_at now.values (now.rates ++ (x ∷ y ∷ [])) v sized.values)
        (ap (λ l. now.values ++ l) (counting_front A is_dependent sheet.roles now.rates (x ∷ y ∷ []) (omega arith)))

    agree_ends : (out : Step A) {ran : ResultAt A} {carried : CarriedResult A} → Agree A v begins ran carried → EndsAt A ⊥ ran out
        → SameEnd sheet out carried
    agree_ends out (both_go now x y sized e f) ends =
        both_end (memory_of A v begins now x y) now (subst (λ r. EndsAt A ⊥ r out) e ends) f (values_left now x y sized) (same_result_lem begins now x y sized)
    agree_ends out (both_stop row stop e f) ends = both_halt row stop (subst (λ r. EndsAt A ⊥ r out) e ends) f

    module _ (words : List ℕ) (is : ReadFor (divides A) words sheet) (sets : Sets) (many : length starts ≡ v) where
      body_named : BodyKnown v (length sheet.constants) (marked_by sets sheet)
      unfolding marked_by mark_by
      body_named = body_known v (length sheet.constants) (mark_by sets) (λ p b. refl) sheet.body 0 (names_present words sheet is.is_read)

      body_done : BodyFeasible (divides A) (marked_by sets sheet)
      unfolding marked_by mark_by
      body_done = body_feasible (divides A) (mark_by sets) (λ p b. refl) sheet.body 0 is.feasible

      abbrev ran : Step A
      ran = run_of A (tangent_by sets sheet) setting (tangent_start A sheet starts rates)

      pub runs_agree : SameEnd sheet ran (plain_by A sets sheet starts rates)
      unfolding tangent_setting tangent_by plain_by
      runs_agree =
          let start = memory_of A v begins first A.zero A.zero in
          subst (λ s. SameEnd sheet (run_of A (tangent_by sets sheet) setting s) (plain_by A sets sheet starts rates)) (sym start_is)
          (agree_ends (run_of A (tangent_by sets sheet) setting (at_row A 0 [] start))
          (agrees A setting begins nothing_kept (marked_by sets sheet) 0 first A.zero A.zero body_named body_done (first_sized many))
          (run_follows_at A ⊥ (tangent_by sets sheet) setting start (λ never. absurd never) (tangent_short words sheet is.is_read sets)))

      -- ---- what that says of each

      pub plain_unstuck : plain_by A sets sheet starts rates ≡ stuck → ⊥
      unfolding tangent_setting plain_by
      plain_unstuck = body_unstuck A setting begins nothing_kept (marked_by sets sheet) 0 first body_named body_done (first_sized many)

      -- a step that is no end and no stop is not what the run comes to
      only_ends : (out : Step A) → ((memory : Memory A) → out ≡ ended memory → ⊥) → ((row : RowNumber) (stop : Stop A) → out ≡ stops row stop → ⊥)
          → ran ≡ out → ⊥
      only_ends out no_end no_stop e = by_end runs_agree
        where
          by_end : SameEnd sheet ran (plain_by A sets sheet starts rates) → ⊥
          by_end (both_end memory now is goes values result) = no_end memory (sym e ∙ is)
          by_end (both_halt row stop is goes) = no_stop row stop (sym e ∙ is)

      pub tangent_unstuck : ran ≡ sticks → ⊥
      tangent_unstuck =
          only_ends sticks (λ memory e. let z : ◌≡◌ {A = ℕ} 0 1 = cc in absurd (omega arith))
          (λ row stop e. let z : ◌≡◌ {A = ℕ} 0 1 = cc in absurd (omega arith))

      pub tangent_ends : (state : State A) → ran ≡ goes_on state → ⊥
      tangent_ends state =
          only_ends (goes_on state) (λ memory e. let z : ◌≡◌ {A = ℕ} 0 1 = cc in absurd (omega arith))
          (λ row stop e. let z : ◌≡◌ {A = ℕ} 0 1 = cc in absurd (omega arith))
