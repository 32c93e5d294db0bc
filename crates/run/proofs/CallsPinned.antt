-- Any two results that the contract of a run's call permits coincide: answer, place and every lent word; so of run_double and run_audit.
use Prim.Native.Nat.{ℕ}
use mathlib.Core.Path.{◌≡◌, sym, ap, ◌∙◌}
use mathlib.Core.List.{List}
use Rattle.number.specs.Arithmetic.{Arithmetic}
use Rattle.table.specs.declared.Reply.{Reply}
use Rattle.run.specs.Runs.{Lent, Ran, ran_of}
use Rattle.run.specs.Calls.{run}

module _ (A : Arithmetic) where
  -- an answer with what the lent buffers then hold
  pub record Left : Type 0 where
    pub answer : Reply
    pub lent : Lent A

  left_by : Ran A → Left
  left_by ran = record { answer = record { number = ran.number; place = ran.place }; lent = ran.lent }

  pub one_outcome : (ran : Ran A) (left left' : Left) → ran_of A left.answer left.lent ≡ ran → ran_of A left'.answer left'.lent ≡ ran → left ≡ left'
  unfolding left_by
  one_outcome ran left left' e e' = ap left_by (e ∙ sym e')

  pub one_run : (words : List ℕ) (starts seeds : List A.Carrier) (lent : Lent A) (left left' : Left)
      → ran_of A left.answer left.lent ≡ run A words starts seeds lent
      → ran_of A left'.answer left'.lent ≡ run A words starts seeds lent
      → left ≡ left'
  one_run words starts seeds lent = one_outcome (run A words starts seeds lent)
