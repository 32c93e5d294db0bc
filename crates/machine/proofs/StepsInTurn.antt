-- So many steps and then so many more, and what derivative rows read on the way.
use Prim.Native.Nat.{ℕ, zero, suc, ◌+◌}
use mathlib.Core.Path.{◌≡◌, refl, sym, ap, ◌∙◌}
use mathlib.Core.List.{List, [], ◌++◌, append-nil, append_assoc}
use lib.ListN.{drop}
use native.Mathlib.Nat.{zero-add, suc-add, add-zero, add-suc}
use native.Mathlib.Omega.{arith}
use Rattle.number.specs.Arithmetic.{Arithmetic}
use Rattle.table.specs.TableRows.{TableLine}
use Rattle.machine.specs.Actions.{Setting}
use Rattle.machine.specs.Machine.{State, Step, goes_on, ended, stops, sticks, step, if_it_goes_on, state_after}
use Rattle.machine.specs.RowReads.{Entry, noted_at, on_next, machine_log}

module _ (A : Arithmetic) where
  module _ (setting : Setting A) (lines : List TableLine) where
    pub steps_add : (n m : ℕ) (s : State A)
        → state_after A (n + m) setting lines s ≡ if_it_goes_on A (state_after A n setting lines s) (λ next. state_after A m setting lines next)
    unfolding state_after
    steps_add zero m s = rw zero-add
    steps_add (suc n) m s = rw suc-add (by_step (step A setting lines s) (λ next. steps_add n m next))
      where
        by_step : (x : Step A)
            → ((next : State A)
            → state_after A (n + m) setting lines next ≡ if_it_goes_on A (state_after A n setting lines next) (λ last. state_after A m setting lines last))
            → if_it_goes_on A x (λ next. state_after A (n + m) setting lines next)
            ≡ if_it_goes_on A (if_it_goes_on A x (λ next. state_after A n setting lines next)) (λ next. state_after A m setting lines next)
        by_step (goes_on next) ih = ih next
        by_step (ended memory) ih = refl
        by_step (stops row stop) ih = refl
        by_step sticks ih = refl

    -- one step by itself
    pub one_step_is : (s : State A) → state_after A 1 setting lines s ≡ step A setting lines s
    unfolding state_after
    one_step_is s = by_step (step A setting lines s)
      where
        by_step : (x : Step A) → if_it_goes_on A x (λ next. goes_on next) ≡ x
        by_step (goes_on next) = refl
        by_step (ended memory) = refl
        by_step (stops row stop) = refl
        by_step sticks = refl

    -- ---- what they note

    -- what is noted at a state
    abbrev pub noted_in : State A → List (Entry A)
    noted_in s = noted_at A setting.variables (drop s.at.index lines) s.memory

    pub log_add : (n m : ℕ) (s : State A)
        → machine_log A (n + m) setting lines s
        ≡ machine_log A n setting lines s ++ on_next A (state_after A n setting lines s) (λ next. machine_log A m setting lines next)
    unfolding machine_log
    log_add n zero s = rw (add-zero n, nothing (state_after A n setting lines s)) (sym (append-nil _))
      where
        nothing : (x : Step A) → on_next A x (λ next. []) ≡ []
        nothing (goes_on next) = refl
        nothing (ended memory) = refl
        nothing (stops row stop) = refl
        nothing sticks = refl
    log_add n (suc m) s =
        let before = machine_log A n setting lines s in
        rw (add-suc n m, log_add n m s, steps_add n m s)
        (append_assoc before _ _ ∙ ap (before ++◌) (by_step (state_after A n setting lines s)))
      where
        by_step : (x : Step A)
            → on_next A x (λ next. machine_log A m setting lines next) ++ on_next A (if_it_goes_on A x (λ next. state_after A m setting lines next)) noted_in
            ≡ on_next A x (λ next. machine_log A (suc m) setting lines next)
        by_step (goes_on next) = refl
        by_step (ended memory) = refl
        by_step (stops row stop) = refl
        by_step sticks = refl

    -- the first step's, and then those of the steps after it
    pub log_first : (n : ℕ) (s : State A)
        → machine_log A (suc n) setting lines s ≡ noted_in s ++ on_next A (step A setting lines s) (λ next. machine_log A n setting lines next)
    unfolding machine_log
    log_first n s =
        let one_more_lem : suc n ≡ 1 + n = omega arith in
        ap (λ k. machine_log A k setting lines s) one_more_lem
        ∙ log_add 1 n s
        ∙ ap (λ (x : Step A). noted_in s ++ on_next A x (λ next. machine_log A n setting lines next)) (one_step_is s)
