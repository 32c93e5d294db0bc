-- An execution keeps the number of its values.
use Prim.Native.Nat.{ℕ}
use mathlib.Core.Path.{◌≡◌, refl, ap, ◌∙◌}
use mathlib.Core.List.{List}
use lib.ListN.{length, length-set}
use Rattle.number.specs.Arithmetic.{Arithmetic}
use Rattle.sheet.specs.Tree.{Tree}
use Rattle.sheet.specs.Rows.{Assignment, ◌≔◌, Test}
use Rattle.machine.specs.Actions.{through}
use Rattle.claims.specs.IdealSweep.{Progress, performed}
use Rattle.claims.proofs.Runs.{Runs, stay, row, left, right, last, more, tested, Rounds, spent, fails, turns, was_performed}

module _ (A : Arithmetic) (constants : List ℕ) where
  pub performed_keeps : (p : ℕ) (b : Assignment) (s m : Progress A) → performed A constants p b s ≡ through m → length m.store ≡ length s.store
  performed_keeps p (d ≔ source) s m e =
      let was = was_performed A constants p d source s m e in
      ap (λ (now : Progress A). length now.store) was.goes ∙ length-set s.store d was.value

  mutual
    pub runs_keep : {t : Tree Assignment Test} {p : ℕ} {s e : Progress A} → Runs A constants t p s e → length e.store ≡ length s.store
    runs_keep stay = refl
    runs_keep (row performs rest) = runs_keep rest ∙ performed_keeps _ _ _ _ performs
    runs_keep (left test first rest) = runs_keep rest ∙ runs_keep first
    runs_keep (right test second rest) = runs_keep rest ∙ runs_keep second
    runs_keep (last body rest) = runs_keep rest ∙ runs_keep body
    runs_keep (more body rest) = runs_keep rest ∙ runs_keep body
    runs_keep (tested loop rest) = runs_keep rest ∙ rounds_keep loop

    pub rounds_keep : {f : Test} {a : Tree Assignment Test} {p most n : ℕ} {s e : Progress A} → Rounds A constants f a p most s n e
        → length e.store ≡ length s.store
    rounds_keep spent = refl
    rounds_keep (fails test) = refl
    rounds_keep (turns test body later) = rounds_keep later ∙ runs_keep body
