-- What stands after a backward part may be exchanged for what does the same: so that the last turn of a loop is a turn like any other.
use Prim.Native.Nat.{ℕ, zero, suc, ◌+◌, ◌≤◌}
use mathlib.Core.Path.{◌≡◌, refl}
use mathlib.Core.Bool.{Bool, true, false, cond}
use mathlib.Core.List.{List, [], ◌∷◌}
use lib.Dec.{leb}
use borrow.Author.Tests.{le-leb}
use Rattle.number.specs.Arithmetic.{Arithmetic}
use Rattle.sheet.specs.Tree.{times, while, Tree, done, one, fork, again, rows}
use Rattle.sheet.specs.Rows.{Assignment, ◌≔◌, Test}
use Rattle.sheet.specs.Names.{AssignmentPresent, Present}
use Rattle.sets.specs.Transfers.{Activity}
use Rattle.sets.specs.Marks.{numbered}
use Rattle.table.specs.TableRows.{Table, of_row, take_back, taking_back, on_turn}
use Rattle.table.specs.Adjoint.{put_if, derivative_rows, backward_of, backward_part}
use Rattle.machine.specs.Actions.{present, Memory, with_turns, Setting, stopping_at, acted, tested}
use Rattle.machine.specs.InTheLarge.{table_run, table_log, count_then, count_log}
use Rattle.claims.proofs.Accounts.{Account, account, Same, quiet, in_turn_same}
use Rattle.claims.proofs.DerivativesAlike.{derivative_rows_same}
use Rattle.claims.proofs.Forward.{body}
use Rattle.claims.proofs.Undoing.{rows_back}

-- so many turns, or none, before the rest
abbrev pub remaining : ℕ → (a rest : Table) → Table
remaining zero a rest = rest
remaining (suc n) a rest = again (times n) a rest

module _ (A : Arithmetic) (setting : Setting A) where
  repeat_same : (n : ℕ) (a rest other : Table) → Same A setting rest other → Same A setting (again (times n) a rest) (again (times n) a other)
  unfolding table_run table_log
  repeat_same zero a rest other same x = in_turn_same A (account A setting a x) _ _ same
  repeat_same (suc n) a rest other same x = in_turn_same A (account A setting a x) _ _ (repeat_same n a rest other same)

  pub last_turn : (n : ℕ) (a rest : Table) → Same A setting (again (times (suc n)) a rest) (again (times n) a (again (times zero) a rest))
  unfolding table_run table_log
  last_turn zero a rest x = refl
  last_turn (suc n) a rest x = in_turn_same A (account A setting a x) _ _ (last_turn n a rest)

  -- the turn that comes last, apart
  pub remaining_last : (n : ℕ) (a rest : Table) → Same A setting (remaining (suc n) a rest) (remaining n a (again (times zero) a rest))
  remaining_last zero a rest x = refl
  remaining_last (suc n) a rest x = last_turn n a rest x

  -- a loop on a count, with the turn stack beside the memory, so that a law can go by what is on it
  abbrev on_count : (m : ℕ) → (a rest : Table) → Memory A → List ℕ → Account A (Memory A)
  on_count m a rest x turns =
      record {
        log = count_log A (suc m) (table_run A setting a) (table_log A setting a) (table_log A setting rest) x turns;
        outcome = count_then A (suc m) (table_run A setting a) (table_run A setting rest) x turns;
      }

  -- a loop on a count that it may do is that many turns
  pub counted : (n m : ℕ) (a rest : Table) (x : Memory A) (turns : List ℕ) → n ≤ suc m
      → account A setting (again (while on_turn m) a rest) (with_turns A x (n ∷ turns)) ≡ account A setting (remaining n a rest) (with_turns A x turns)
  unfolding table_run table_log count_then count_log
  counted zero m a rest x turns fits = rw (le-leb zero (suc m) fits) refl
  counted (suc n) m a rest x turns fits = rw (le-leb (suc n) (suc m) fits) refl

  count_same : (m : ℕ) (a rest other : Table) → Same A setting rest other
      → Same A setting (again (while on_turn m) a rest) (again (while on_turn m) a other)
  unfolding table_run table_log count_then count_log
  count_same m a rest other same x = by_turns x.turns
    where
      by_fit : (fits : Bool) (n : ℕ) (turns : List ℕ) → leb n (suc m) ≡ fits → on_count m a rest x (n ∷ turns) ≡ on_count m a other x (n ∷ turns)
      by_fit true zero turns fits = rw fits (same (with_turns A x turns))
      by_fit true (suc n) turns fits = rw fits (repeat_same n a rest other same (with_turns A x turns))
      by_fit false n turns fits = rw fits refl

      by_turns : (turns : List ℕ) → on_count m a rest x turns ≡ on_count m a other x turns
      by_turns [] = refl
      by_turns (n ∷ turns) = by_fit (leb n (suc m)) n turns refl

  branches_same : (a b rest other : Table) → Same A setting rest other → Same A setting (fork on_turn a b rest) (fork on_turn a b other)
  unfolding table_run table_log
  branches_same a b rest other same x =
      in_turn_same A (quiet A (present (tested A on_turn x))) _ _
      (λ w.
      in_turn_same A
      (record {
        log = cond w.first (table_log A setting a w.memory) (table_log A setting b w.memory);
        outcome = cond w.first (table_run A setting a w.memory) (table_run A setting b w.memory);
      })
      _ _ same)

  module _ (known : ℕ → Assignment → Activity) (saved : ℕ → Assignment → Bool) (k : ℕ) where
    abbrev v : ℕ
    v = setting.variables

    row_same : (p : ℕ) (b : Assignment) → AssignmentPresent v k b → (rest other : Table) → Same A setting rest other
        → Same A setting (rows_back known saved v p b rest) (rows_back known saved v p b other)
    unfolding backward_of AssignmentPresent table_run table_log
    row_same p (d ≔ source) named rest other same x = by_choice (saved p (d ≔ source))
      where
        derivatives : Table → Table
        derivatives = derivative_rows v (known p (d ≔ source)).active d source (record { index = p }) (known p (d ≔ source))

        inside : Same A setting (derivatives rest) (derivatives other)
        inside = derivative_rows_same A setting k d source (record { index = p }) (known p (d ≔ source)) named.0 named.1 rest other same

        by_choice : (choice : Bool)
            → account A setting (put_if choice (record { index = p }) taking_back (take_back d) (derivatives rest)) x
            ≡ account A setting (put_if choice (record { index = p }) taking_back (take_back d) (derivatives other)) x
        by_choice true = in_turn_same A (quiet A (stopping_at A (of_row (record { index = p }) taking_back) (acted A setting (take_back d) x))) _ _ inside
        by_choice false = inside x

    pub back_same : (t : Tree Assignment Test) (p : ℕ) → Present v k t → (rest other : Table) → Same A setting rest other
        → Same A setting (backward_part v (body known saved t p) rest) (backward_part v (body known saved t p) other)
    unfolding numbered backward_part Present
    back_same done p named rest other same = same
    back_same (one b kk) p named rest other same = back_same kk (suc p) named.1 _ _ (row_same p b named.0 rest other same)
    back_same (fork f a b kk) p named rest other same =
        let split : ℕ = suc p + rows a in
        back_same kk (suc (suc split + rows b)) named.3 _ _
        (branches_same (backward_part v (body known saved a (suc p)) done) (backward_part v (body known saved b (suc split)) done) rest other same)
    back_same (again (times n) a kk) p named rest other same =
        back_same kk (suc (suc p + rows a)) named.1 _ _
        (repeat_same n (backward_part v (body known saved a (suc p)) done) rest other same)
    back_same (again (while f m) a kk) p named rest other same =
        back_same kk (suc (suc p + rows a)) named.1 _ _
        (count_same m (backward_part v (body known saved a (suc p)) done) rest other same)
