-- Any two results that the contracts of tangent_double and tangent_audit permit coincide: answer, place and every lent word.
use Prim.Native.Nat.{ℕ}
use mathlib.Core.Path.{◌≡◌, ap}
use mathlib.Core.List.{List}
use Rattle.number.specs.Arithmetic.{Arithmetic}
use Rattle.table.specs.declared.Reply.{Reply}
use Rattle.run.specs.Runs.{ran_of}
use Rattle.run.proofs.CallsPinned.{Left, one_outcome}
use Rattle.tangent.specs.TangentRuns.{without_stacks}
use Rattle.tangent.specs.Calls.{run_tangent}

module _ (A : Arithmetic) where
  -- an answer with what the lent buffers then hold
  pub record TangentLeft : Type 0 where
    pub answer : Reply
    pub table : List ℕ
    pub result : List A.Carrier

  with_stacks : TangentLeft → Left A
  with_stacks left = record { answer = left.answer; lent = without_stacks A left.table left.result }

  lent_back : Left A → TangentLeft
  lent_back left = record { answer = left.answer; table = left.lent.table; result = left.lent.result }

  pub one_tangent_run : (words : List ℕ) (starts rates : List A.Carrier) (table : List ℕ) (result : List A.Carrier) (left left' : TangentLeft)
      → ran_of A left.answer (without_stacks A left.table left.result) ≡ run_tangent A words starts rates (without_stacks A table result)
      → ran_of A left'.answer (without_stacks A left'.table left'.result) ≡ run_tangent A words starts rates (without_stacks A table result)
      → left ≡ left'
  unfolding with_stacks lent_back
  one_tangent_run words starts rates table result left left' e e' =
      ap lent_back (one_outcome A (run_tangent A words starts rates (without_stacks A table result)) (with_stacks left) (with_stacks left') e e')
