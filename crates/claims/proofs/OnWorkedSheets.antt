-- The claims speak of something: sheets E (a repeat that saves), D (an "if"), P (a loop with a test in a repeat, which saves) and C meet every hypothesis, and what is
-- claimed of them isn't empty.
use Prim.Native.Nat.{ℕ, zero, suc, ◌*◌, ◌<◌}
use mathlib.Core.Path.{◌≡◌, refl, sym}
use mathlib.Core.Bool.{Bool, true, false, ◌&&◌}
use mathlib.Core.List.{List, [], ◌∷◌, map}
use lib.ListN.{get_or, replicate}
use lib.Dec.{ltb}
use native.Mathlib.Omega.{arith}
use borrow.Author.Tests.{ltb-true}
use Rattle.number.specs.Residues.{modulus, residues, residue}
use Rattle.sheet.specs.Judging.{Answer, refused, given}
use Rattle.sheet.specs.Tree.{done}
use Rattle.sheet.specs.Sheets.{Sheet, variables_of}
use Rattle.sheet.specs.Reading.{read, read_in}
use Rattle.sheet.proofs.RowsBack.{both}
use Rattle.sheet.proofs.Settled.{given_exactly}
use Rattle.sets.specs.Rounds.{varied, useful, required, sets_of}
use Rattle.sets.specs.Marks.{mark_by, activity_at, marked_by}
use Rattle.table.specs.Sizes.{table_rows, values_needed, turns_needed, needs_by}
use Rattle.table.specs.Calls.{read_for}
use Rattle.machine.specs.Actions.{Attempt, through, halted, stuck, Stop, counting}
use Rattle.run.specs.Runs.{Lent, setting_of}
use Rattle.run.specs.Calls.{read_to_run, run}
use Rattle.tangent.specs.Tangent.{tangent_rows, tangent_needs_by}
use Rattle.tangent.specs.Calls.{run_tangent}
use Rattle.claims.specs.ExactlyWhen.{Accepted}
use Rattle.claims.specs.IdealSweep.{Progress, execution, first_adjoints, swept_log}
use Rattle.claims.specs.EquationTwo.{Instance, value_no, EquationTwo}
use Rattle.claims.specs.WholeRun.{saved_values, recorded_in}
use Rattle.claims.specs.WorkedSheets.{words_c, words_d, words_e, words_p}
use Rattle.claims.specs.ThreeDemands.{SameAsAllSaved, AreResidues}
use Rattle.claims.specs.Demands.{AuditSolves, DemandThree}
use Rattle.claims.specs.Balance.{Balances}
use Rattle.claims.proofs.ReadingExactlyWhen.{reading_settled}
use Rattle.claims.proofs.StartExactlyWhen.{own_sets, needed, Fits, writing_settled, start_settled, OwnRunnable, reads_to_run}
use Rattle.claims.proofs.AuditSolves.{audit_solves}
use Rattle.claims.proofs.DemandTwoHolds.{same_as_all_saved}
use Rattle.claims.proofs.DemandThreeHolds.{demand_three}
use Rattle.claims.proofs.BalanceHolds.{balance}

-- the sheet that words are, where they are one
sheet_in : Answer Sheet → Sheet
sheet_in (refused r) = record { roles = []; constants = []; rows = []; body = done }
sheet_in (given sheet) = sheet

-- ---- E

below : (x : ℕ) → get_or (1 ∷ 0 ∷ []) x 0 < modulus
below zero = omega arith
below (suc zero) = omega arith
below (suc (suc x)) = omega arith

sheet_e : Sheet
unfolding sheet_in read
sheet_e = sheet_in (read words_e)

E-is_read : read words_e ≡ given sheet_e
unfolding sheet_e read
E-is_read = refl

E-accepted : Accepted words_e sheet_e (sets_of sheet_e)
E-accepted = own_sets words_e sheet_e ((given_exactly (reading_settled words_e) sheet_e).0 E-is_read)

lent_e : Lent residues
lent_e = record { table = replicate 77 7; values = 7 ∷ 7 ∷ []; turns = []; result = 7 ∷ 7 ∷ 7 ∷ 7 ∷ [] }

E-runs : OwnRunnable residues needs_by words_e (1 ∷ 0 ∷ []) (1 ∷ 0 ∷ []) lent_e sheet_e
unfolding read_to_run sheet_e lent_e table_rows marked_by required values_needed turns_needed
E-runs = (given_exactly (start_settled residues needs_by words_e (1 ∷ 0 ∷ []) (1 ∷ 0 ∷ []) lent_e) sheet_e).0 refl

E-demand_three : DemandThree residues sheet_e (sets_of sheet_e) (1 ∷ 0 ∷ []) (1 ∷ 0 ∷ []) 2 0
unfolding sheet_e marked_by required values_needed turns_needed
E-demand_three = demand_three residues words_e sheet_e (sets_of sheet_e) E-accepted E-runs.lengths.stacks.writable.calculable (1 ∷ 0 ∷ []) (1 ∷ 0 ∷ []) refl 2 0 (omega arith) (omega arith)

E-same_as_all_saved : SameAsAllSaved residues sheet_e (sets_of sheet_e) (1 ∷ 0 ∷ []) (1 ∷ 0 ∷ [])
unfolding sheet_e
E-same_as_all_saved = same_as_all_saved residues words_e sheet_e (1 ∷ 0 ∷ []) (1 ∷ 0 ∷ [])
    (reads_to_run residues needs_by words_e (1 ∷ 0 ∷ []) (1 ∷ 0 ∷ []) lent_e sheet_e E-runs) refl

-- what E executes from 1 and 0
ended : Attempt (Stop residues) (Progress residues) → Progress residues
ended (through progress) = progress
ended (halted stop) = record { store = []; trace = []; turns = [] }
ended stuck = record { store = []; trace = []; turns = [] }

progress_e : Progress residues
unfolding ended sheet_e execution residue
progress_e = ended (execution residues sheet_e (1 ∷ 0 ∷ []))

E-executes : execution residues sheet_e (1 ∷ 0 ∷ []) ≡ through progress_e
unfolding progress_e
E-executes = refl

-- two values are saved, 2 on top of 1
E-saves : saved_values residues (recorded_in (sets_of sheet_e)) progress_e.trace ≡ 2 ∷ 1 ∷ []
unfolding saved_values mark_by required progress_e
E-saves = refl

-- Each turn's sum reads no original; each turn's product reads x twice: 2 in the second turn, which is taken back first, and 1 in the first.
E-reads : map (λ entry. entry.reads)
    (swept_log residues (setting_of residues sheet_e (1 ∷ 0 ∷ []) 2 0) (activity_at (sets_of sheet_e).varied (sets_of sheet_e).useful) progress_e.trace
    (first_adjoints residues sheet_e.roles (1 ∷ 0 ∷ [])))
    ≡ [] ∷ [] ∷ [] ∷ [] ∷ [] ∷ [] ∷ (2 ∷ []) ∷ [] ∷ (2 ∷ []) ∷ [] ∷ [] ∷ [] ∷ [] ∷ [] ∷ [] ∷ [] ∷ (1 ∷ []) ∷ [] ∷ (1 ∷ []) ∷ [] ∷ []
unfolding swept_log setting_of activity_at varied useful progress_e counting residue
E-reads = refl

E-audit : AuditSolves sheet_e (1 ∷ 0 ∷ []) (1 ∷ 0 ∷ []) (run residues words_e (1 ∷ 0 ∷ []) (1 ∷ 0 ∷ []) lent_e)
E-audit = audit_solves words_e (1 ∷ 0 ∷ []) (1 ∷ 0 ∷ []) lent_e sheet_e E-runs small _ refl
  where
    small : (x : ℕ) → x < variables_of sheet_e → get_or (1 ∷ 0 ∷ []) x 0 < modulus
    small x h = below x

-- equation (2) has 15 at x's start value, as 01 says
E-equation_two : (bar : Instance → ℕ) → EquationTwo sheet_e.roles (1 ∷ 0 ∷ []) E-audit.progress.trace bar → bar (value_no 0 0) ≡ 15
unfolding sheet_e run lent_e residue
E-equation_two bar solves = sym (E-audit.adjoints bar solves 0 (omega arith))

-- ---- D: the branch taken is saved

sheet_d : Sheet
unfolding sheet_in read
sheet_d = sheet_in (read words_d)

D-is_read : read words_d ≡ given sheet_d
unfolding sheet_d read
D-is_read = refl

D-accepted : Accepted words_d sheet_d (sets_of sheet_d)
D-accepted = own_sets words_d sheet_d ((given_exactly (reading_settled words_d) sheet_d).0 D-is_read)

D-fits : Fits false needs_by words_d (replicate 100 7) sheet_d
unfolding read_for read_in sheet_d table_rows marked_by required
D-fits = (given_exactly (writing_settled false needs_by words_d (replicate 100 7)) sheet_d).0 refl

D-demand_three : DemandThree residues sheet_d (sets_of sheet_d) (5 ∷ 2 ∷ []) (1 ∷ 0 ∷ []) 0 1
unfolding sheet_d marked_by required values_needed turns_needed
D-demand_three = demand_three residues words_d sheet_d (sets_of sheet_d) D-accepted D-fits.calculable (5 ∷ 2 ∷ []) (1 ∷ 0 ∷ []) refl 0 1 (omega arith) (omega arith)

D-turns : (ended (execution residues sheet_d (5 ∷ 2 ∷ []))).turns ≡ 1 ∷ []
unfolding ended sheet_d execution
D-turns = refl

-- ---- P: the turns done are saved

sheet_p : Sheet
unfolding sheet_in read
sheet_p = sheet_in (read words_p)

P-is_read : read words_p ≡ given sheet_p
unfolding sheet_p read
P-is_read = refl

P-accepted : Accepted words_p sheet_p (sets_of sheet_p)
P-accepted = own_sets words_p sheet_p ((given_exactly (reading_settled words_p) sheet_p).0 P-is_read)

P-fits : Fits false needs_by words_p (replicate 100 7) sheet_p
unfolding read_for read_in sheet_p table_rows marked_by required
P-fits = (given_exactly (writing_settled false needs_by words_p (replicate 100 7)) sheet_p).0 refl

P-demand_three : DemandThree residues sheet_p (sets_of sheet_p) (2 ∷ 5 ∷ []) (1 ∷ 0 ∷ []) 6 2
unfolding sheet_p marked_by required values_needed turns_needed
P-demand_three = demand_three residues words_p sheet_p (sets_of sheet_p) P-accepted P-fits.calculable (2 ∷ 5 ∷ []) (1 ∷ 0 ∷ []) refl 6 2 (omega arith) (omega arith)

progress_p : Progress residues
unfolding ended sheet_p execution residue
progress_p = ended (execution residues sheet_p (2 ∷ 5 ∷ []))

-- two turns in the repeat's first and none in its second, whose count is on top; so two values are saved, of the six that there is room for
P-turns : progress_p.turns ≡ 0 ∷ 2 ∷ []
unfolding progress_p
P-turns = refl

P-saves : saved_values residues (recorded_in (sets_of sheet_p)) progress_p.trace ≡ 4 ∷ 2 ∷ []
unfolding saved_values mark_by required progress_p
P-saves = refl

-- ---- C, D, E and P: both directions run, and balance. None of the sums is 0: C's is −5120 modulo 2^32, D's 42, E's 225, P's 480, as the table of worked sheets has
-- them.

all_residues : List ℕ → Bool
all_residues [] = true
all_residues (x ∷ xs) = ltb x modulus && all_residues xs

are_residues : (numbers : List ℕ) → all_residues numbers ≡ true → AreResidues numbers
unfolding all_residues
are_residues [] e x = omega arith
are_residues (y ∷ numbers) e zero = ltb-true y modulus (both (ltb y modulus) (all_residues numbers) e).0
are_residues (y ∷ numbers) e (suc x) = are_residues numbers (both (ltb y modulus) (all_residues numbers) e).1 x

module _ (words starts seeds rates : List ℕ) (lent lent' : Lent residues) (sheet : Sheet) where
  -- what is asked of both calls, settled by computing
  record BothAccept : Type 0 where
    residue_seeds : all_residues seeds ≡ true
    residue_rates : all_residues rates ≡ true
    adjoint_reads : read_to_run residues (needed needs_by) words starts seeds lent ≡ given sheet
    tangent_reads : read_to_run residues (needed tangent_needs_by) words starts rates lent' ≡ given sheet

  balanced_on : BothAccept → Balances sheet seeds rates (run residues words starts seeds lent) (run_tangent residues words starts rates lent')
  balanced_on accept =
      let adjoint = run residues words starts seeds lent in
      let tangent = run_tangent residues words starts rates lent' in
      balance words starts seeds rates (are_residues seeds accept.residue_seeds) (are_residues rates accept.residue_rates) lent adjoint.lent lent' tangent.lent
      (record { number = adjoint.number; place = adjoint.place }) (record { number = tangent.number; place = tangent.place }) refl refl sheet (sets_of sheet)
      ((given_exactly (start_settled residues needs_by words starts seeds lent) sheet).0 accept.adjoint_reads)
      ((given_exactly (start_settled residues tangent_needs_by words starts rates lent') sheet).0 accept.tangent_reads)

sheet_c : Sheet
unfolding sheet_in read
sheet_c = sheet_in (read words_c)

-- buffers that suffice for each of the four
roomy : (variables : ℕ) → Lent residues
roomy variables = record { table = replicate 81 7; values = replicate 6 7; turns = replicate 2 7; result = replicate (2 * variables) 7 }

C-balances : Balances sheet_c (4294967295 ∷ []) (5 ∷ []) (run residues words_c (2 ∷ []) (4294967295 ∷ []) (roomy 1)) (run_tangent residues words_c (2 ∷ []) (5 ∷ []) (roomy 1))
unfolding read_to_run sheet_c roomy all_residues table_rows marked_by required values_needed turns_needed tangent_rows
C-balances = balanced_on words_c (2 ∷ []) (4294967295 ∷ []) (5 ∷ []) (roomy 1) (roomy 1) sheet_c
    (record { residue_seeds = refl; residue_rates = refl; adjoint_reads = refl; tangent_reads = refl })

D-balances : Balances sheet_d (7 ∷ 9 ∷ []) (6 ∷ 9 ∷ []) (run residues words_d (1 ∷ 2 ∷ []) (7 ∷ 9 ∷ []) (roomy 2)) (run_tangent residues words_d (1 ∷ 2 ∷ []) (6 ∷ 9 ∷ []) (roomy 2))
unfolding read_to_run sheet_d roomy all_residues table_rows marked_by required values_needed turns_needed tangent_rows
D-balances = balanced_on words_d (1 ∷ 2 ∷ []) (7 ∷ 9 ∷ []) (6 ∷ 9 ∷ []) (roomy 2) (roomy 2) sheet_d
    (record { residue_seeds = refl; residue_rates = refl; adjoint_reads = refl; tangent_reads = refl })

E-balances : Balances sheet_e (3 ∷ 9 ∷ []) (5 ∷ 9 ∷ []) (run residues words_e (1 ∷ 0 ∷ []) (3 ∷ 9 ∷ []) (roomy 2)) (run_tangent residues words_e (1 ∷ 0 ∷ []) (5 ∷ 9 ∷ []) (roomy 2))
unfolding read_to_run sheet_e roomy all_residues table_rows marked_by required values_needed turns_needed tangent_rows
E-balances = balanced_on words_e (1 ∷ 0 ∷ []) (3 ∷ 9 ∷ []) (5 ∷ 9 ∷ []) (roomy 2) (roomy 2) sheet_e
    (record { residue_seeds = refl; residue_rates = refl; adjoint_reads = refl; tangent_reads = refl })

P-balances : Balances sheet_p (3 ∷ 9 ∷ []) (5 ∷ 9 ∷ []) (run residues words_p (2 ∷ 5 ∷ []) (3 ∷ 9 ∷ []) (roomy 2)) (run_tangent residues words_p (2 ∷ 5 ∷ []) (5 ∷ 9 ∷ []) (roomy 2))
unfolding read_to_run sheet_p roomy all_residues table_rows marked_by required values_needed turns_needed tangent_rows
P-balances = balanced_on words_p (2 ∷ 5 ∷ []) (3 ∷ 9 ∷ []) (5 ∷ 9 ∷ []) (roomy 2) (roomy 2) sheet_p
    (record { residue_seeds = refl; residue_rates = refl; adjoint_reads = refl; tangent_reads = refl })
