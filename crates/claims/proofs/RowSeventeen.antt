-- What row 17 makes of the memory: the values copied out, the adjoints seeded, t and u as they were.
use Prim.Native.Nat.{ℕ, zero, suc, ◌+◌, ◌*◌}
use mathlib.Core.Path.{◌≡◌, refl, ap, ◌∙◌}
use mathlib.Core.List.{List, [], ◌∷◌, ◌++◌, append_assoc}
use lib.ListN.{length, take, drop, replicate, length-append}
use lib.Seq.{take_at, drop-append-add}
use native.Mathlib.Nat.{suc-add, zero-add}
use native.Mathlib.Omega.{arith}
use Rattle.number.specs.Arithmetic.{Arithmetic}
use Rattle.sheet.specs.Rows.{is_dependent}
use Rattle.machine.specs.Actions.{Setting, seeded, turned_round}
use Rattle.claims.specs.IdealSweep.{first_adjoints}
use Rattle.machine.proofs.RoleLaws.{counting_length}

module _ (A : Arithmetic) where
  drop_zeros : (n m : ℕ) → drop n (replicate (n + m) A.zero) ≡ replicate m A.zero
  drop_zeros zero m = rw zero-add refl
  drop_zeros (suc n) m = rw (suc-add n m) (drop_zeros n m)

  pub first_size : (roles : List ℕ) (seeds : List A.Carrier) → length (first_adjoints A roles seeds) ≡ length roles + 2
  first_size roles seeds = length-append (seeded A roles seeds) (A.zero ∷ A.zero ∷ []) ∙ ap (λ k. k + 2) (counting_length A is_dependent roles seeds)

  pub turns_round : (setting : Setting A) (store values : List A.Carrier) (turns : List ℕ) → length store ≡ setting.variables
      → turned_round A setting (record { store = store ++ replicate (setting.variables + 2) A.zero; values = values; turns = turns; copied = [] })
      ≡ record { store = store ++ first_adjoints A setting.roles setting.seeds; values = values; turns = turns; copied = store }
  unfolding turned_round
  turns_round setting store values turns n =
      let v = setting.variables in
      let tail = replicate (v + 2) A.zero in
      let taken : take v (store ++ tail) ≡ store = take_at store tail v n in
      let twice : 2 * v ≡ length store + v = omega arith in
      let left : drop (2 * v) (store ++ tail) ≡ A.zero ∷ A.zero ∷ [] =
      ap (λ k. drop k (store ++ tail)) twice ∙ drop-append-add store tail v ∙ drop_zeros v 2 in
      rw (taken, left, append_assoc) refl
