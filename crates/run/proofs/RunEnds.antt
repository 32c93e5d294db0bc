-- How a run ends, from where its steps in turn leave it: what the calls read off.
use Prim.Native.Nat.{ℕ, zero, suc, ◌<◌}
use mathlib.Core.Path.{◌≡◌, refl, sym, ap, ◌∙◌}
use mathlib.Core.Logic.{◌⊎◌, inl, inr}
use mathlib.Core.List.{List}
use native.Mathlib.Omega.{arith}
use Rattle.number.specs.Arithmetic.{Arithmetic}
use Rattle.table.specs.TableRows.{TableLine}
use Rattle.machine.specs.Actions.{Memory, Setting}
use Rattle.machine.specs.Machine.{State, Step, step, if_it_goes_on, state_after}
use Rattle.machine.specs.Inner.Buffers.{Cells, memory_of}
use Rattle.machine.specs.Inner.RowSteps.{buffers_at, state_at, CopiesOn}
use Rattle.machine.specs.Inner.RunsRows.{first_state, LeavesBy, Leaves}
use Rattle.machine.specs.declared.Loop.{Loop}
use Rattle.machine.specs.declared.Ran.{Ran}
use Rattle.machine.specs.declared.Ended.{Ended}
use Rattle.machine.specs.declared.Ended.TheVariants as ended_as
use Rattle.machine.proofs.StepsInTurn.{steps_add}
use Rattle.run.specs.Inner.TableRuns.{EndsLike}

module _ (A : Arithmetic) where
  module _ (setting : Setting A) (lines : List TableLine) (start : Memory A) (steps : ℕ) (first after : Cells A) where
    abbrev ending : Step A
    ending = state_after A steps setting lines (first_state A start)

    -- so many more steps
    abbrev more : (left : ℕ) → Step A → Step A
    more left x = if_it_goes_on A x (λ next. state_after A left setting lines next)

    one_more_lem : (left : ℕ) → 0 < left → (n : ℕ) × (left ≡ suc n)
    one_more_lem zero some_left = absurd (omega arith)
    one_more_lem (suc n) some_left = (n, refl)

    copies_somewhere : (held : List A.Carrier) → CopiesOn A start.copied first held after → (held ≡ start.copied) ⊎ (held ≡ after.copied)
    copies_somewhere held (inl (is, kept)) = inl is
    copies_somewhere held (inr is) = inr is

    pub ends_like : (loops : List Loop) (answer : Ran) → Leaves A setting lines start steps first after loops answer
        → EndsLike A start after answer.ended ending
    unfolding state_after
    ends_like loops answer leaves = by_end answer.ended leaves.why
      where
        now : State A
        now = state_at A answer.place leaves.stands.repeats after leaves.stands.held

        rest : ending ≡ state_after A answer.place.left setting lines now
        rest =
            ap (λ (n : ℕ). state_after A n setting lines (first_state A start)) (sym leaves.stands.spent)
            ∙ steps_add A setting lines leaves.stands.taken answer.place.left (first_state A start)
            ∙ ap (more answer.place.left) leaves.stands.is

        -- the step that would be next
        by_next : (found : Step A) → 0 < answer.place.left → step A setting lines now ≡ found → (n : ℕ) × (ending ≡ more n found)
        by_next found some_left is =
            let left = one_more_lem answer.place.left some_left in
            (left.0, rest ∙ ap (λ (n : ℕ). state_after A n setting lines now) left.1 ∙ ap (more left.0) is)

        by_end : (how : Ended)
            → LeavesBy A answer.place (memory_of A (buffers_at A answer.place after leaves.stands.held)) (step A setting lines now) how
            → EndsLike A start after how ending
        by_end ended_as.Finished (some_left, is) =
            record {
              memory = _;
              is = (by_next _ some_left is).1;
              store = refl;
              copies = copies_somewhere leaves.stands.held leaves.stands.copies;
            }
        by_end (ended_as.Stopped row) (some_left, at, stop) =
            rw at (record { stop = stop.stop; is = (by_next _ some_left stop.is).1 })
        by_end ended_as.Stuck (some_left, is) = (by_next _ some_left is).1
        by_end ended_as.Unfinished spent = (now, rest ∙ ap (λ (n : ℕ). state_after A n setting lines now) spent)
