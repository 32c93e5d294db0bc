-- What running something comes to, with what the derivative rules read on the way, side by side: so that a law of both is stated once.
use Prim.Native.Nat.{ℕ}
use mathlib.Core.Path.{◌≡◌, refl}
use mathlib.Core.List.{List, [], ◌++◌, append_assoc, append-nil}
use Rattle.number.specs.Arithmetic.{Arithmetic}
use Rattle.sheet.specs.Tree.{RowNumber}
use Rattle.sheet.specs.Rows.{Assignment}
use Rattle.sets.specs.Transfers.{Activity}
use Rattle.table.specs.TableRows.{Table}
use Rattle.machine.specs.Actions.{Attempt, through, halted, ◌>>=◌, Memory, Setting, Stop}
use Rattle.machine.specs.InTheLarge.{table_run, table_log}
use Rattle.machine.specs.RowReads.{Entry, on_through}
use Rattle.claims.specs.IdealSweep.{Executed, derived_by, swept, derived_log, swept_log}

module _ (A : Arithmetic) where
  pub record Account (X : Type 0) : Type 0 where
    pub log : List (Entry A)
    pub outcome : Attempt (Stop A) X

  module _ {X : Type 0} where
    -- nothing noted
    abbrev pub quiet : Attempt (Stop A) X → Account X
    quiet outcome = record { log = []; outcome = outcome }

    abbrev pub stopping : List (Entry A) → Stop A → Account X
    stopping log stop = record { log = log; outcome = halted stop }

    -- these entries first
    abbrev pub noting : List (Entry A) → Account X → Account X
    noting log later = record { log = log ++ later.log; outcome = later.outcome }

    pub nothing_more : (log : List (Entry A)) (outcome : Attempt (Stop A) X) → noting log (quiet outcome) ≡ record { log = log; outcome = outcome }
    nothing_more log outcome = rw (append-nil log) refl

    pub noting_more : (log more : List (Entry A)) (later : Account X) → noting log (noting more later) ≡ noting (log ++ more) later
    noting_more log more later = rw (append_assoc log more later.log) refl

  module _ {X Y : Type 0} where
    abbrev pub in_turn : Account X → (X → Account Y) → Account Y
    in_turn first next =
        record { log = first.log ++ on_through A first.outcome (λ x. (next x).log); outcome = first.outcome >>= λ x. (next x).outcome }

    pub in_turn_same : (first : Account X) (next other : X → Account Y) → ((x : X) → next x ≡ other x) → in_turn first next ≡ in_turn first other
    in_turn_same first next other same = λ i. in_turn first (λ x. same x i)

    pub noting_then : (log : List (Entry A)) (x : X) (next : X → Account Y) → in_turn (noting log (quiet (through x))) next ≡ noting log (next x)
    noting_then log x next = rw (append-nil log) refl

  module _ (setting : Setting A) where
    -- a table in the large; an assignment's derivative rows in the ideal sweep; the ideal sweep
    abbrev pub account : Table → Memory A → Account (Memory A)
    account table memory = record { log = table_log A setting table memory; outcome = table_run A setting table memory }

    abbrev pub Same : Table → Table → Type 0
    Same table other = (x : Memory A) → account table x ≡ account other x

    abbrev pub derived : Assignment → RowNumber → Activity → (originals adjoints : List A.Carrier) → Account (List A.Carrier)
    derived b row known originals adjoints =
        record { log = derived_log A setting b row known originals adjoints; outcome = derived_by A setting b row known originals adjoints }

    abbrev pub sweeping : (ℕ → Assignment → Activity) → List (Executed A) → List A.Carrier → Account (List A.Carrier)
    sweeping known trace adjoints = record { log = swept_log A setting known trace adjoints; outcome = swept A setting known trace adjoints }
