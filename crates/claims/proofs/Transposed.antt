-- Adjoints taken back and rates carried on are each other's transpose: the sum over all variables of adjoint times rate, modulo 2^32, is the same
-- before and after an executed assignment, and so at both ends of a trace whose assignments name only what is there, as an execution's do.
use Prim.Native.Nat.{ℕ, zero, suc, ◌+◌, ◌*◌, ◌<◌}
use mathlib.Core.Path.{◌≡◌, refl, sym, ap, subst, ◌∙◌}
use mathlib.Core.Bool.{cond}
use mathlib.Core.List.{List, [], ◌∷◌}
use mathlib.Core.Option.{Option, none, some}
use lib.ListN.{length}
use lib.Dec.{eqb}
use native.Mathlib.Decide.{ℕ_discrete}
use native.Mathlib.Nat.{mul_comm, mul-zero}
use native.Mathlib.Omega.{arith}
use borrow.Author.Tests.{eq-eqb, ne_eqb}
use Rattle.number.specs.Residues.{residue, residues}
use Rattle.number.proofs.ResidueLaws.{residue_product_right}
use Rattle.sheet.specs.Tree.{Tree}
use Rattle.sheet.specs.Rows.{Assignment, ◌≔◌, Source, Test}
use Rattle.sheet.specs.Names.{AssignmentPresent, Present}
use Rattle.sets.specs.Transfers.{first_read, second_read}
use Rattle.machine.specs.Actions.{through}
use Rattle.claims.specs.IdealSweep.{Progress, performed}
use Rattle.claims.specs.EquationTwo.{Trace}
use Rattle.claims.specs.Balance.{sum_below}
use Rattle.claims.proofs.Runs.{Runs, stay, row, left, right, last, more, tested, Rounds, spent, fails, turns, was_performed}
use Rattle.claims.proofs.EquationTwoSolved.{first_factor, second_factor, share, full_step, full_swept}
use Rattle.claims.proofs.FullRates.{OperandPresent, operands_present, rate_read, rate_given, rate_step, rates_along}

-- ---- residues

same_terms : (a b c d : ℕ) → residue a ≡ residue b → residue c ≡ residue d → residue (a + c) ≡ residue (b + d)
unfolding residue
same_terms a b c d e f = omega arith

-- ---- sums

pub sums_agree : (n : ℕ) (f g : ℕ → ℕ) → ((x : ℕ) → x < n → f x ≡ g x) → sum_below n f ≡ sum_below n g
unfolding sum_below
sums_agree zero f g same = refl
sums_agree (suc n) f g same = rw (sums_agree n f g (λ x h. same x (omega arith)), same n (omega arith))

pub sums_agree_in_residue : (n : ℕ) (f g : ℕ → ℕ) → ((x : ℕ) → x < n → residue (f x) ≡ residue (g x))
    → residue (sum_below n f) ≡ residue (sum_below n g)
unfolding sum_below
sums_agree_in_residue zero f g same = refl
sums_agree_in_residue (suc n) f g same =
    same_terms _ _ _ _ (sums_agree_in_residue n f g (λ x h. same x (omega arith))) (same n (omega arith))

pub sum_of_sums : (n : ℕ) (f g : ℕ → ℕ) → sum_below n (λ x. f x + g x) ≡ sum_below n f + sum_below n g
unfolding sum_below
sum_of_sums zero f g = refl
sum_of_sums (suc n) f g = rw (sum_of_sums n f g) (omega arith)

pub sum_of_zeros : (n : ℕ) → sum_below n (λ x. 0) ≡ 0
unfolding sum_below
sum_of_zeros zero = refl
sum_of_zeros (suc n) = rw (sum_of_zeros n)

-- a single place counts
pub sum_at_one : (n d y : ℕ) → d < n → sum_below n (λ x. cond (eqb d x) y 0) ≡ y
unfolding sum_below
sum_at_one zero d y h = absurd (omega arith)
sum_at_one (suc n) d y h = by_case (ℕ_discrete d n) (sum_at_one n d y)
  where
    by_case : Dec (d ≡ n) → (d < n → sum_below n (λ x. cond (eqb d x) y 0) ≡ y) → sum_below n (λ x. cond (eqb d x) y 0) + cond (eqb d n) y 0 ≡ y
    by_case (yes e) below =
        let elsewhere = sums_agree n (λ x. cond (eqb d x) y 0) (λ x. 0) (λ x h'. rw (ne_eqb d x (λ q. absurd (omega arith)))) in
        rw (elsewhere ∙ sum_of_zeros n, eq-eqb d n e) (omega arith)
    by_case (no apart) below = rw (below (omega arith), ne_eqb d n apart) (omega arith)

-- ---- what an operand brings

sum_of_shares : (variables : ℕ) (operand : Option ℕ) (amount : ℕ) (rates : ℕ → ℕ) → OperandPresent variables operand
    → sum_below variables (λ x. share operand amount x * rates x) ≡ amount * rate_read operand rates
sum_of_shares variables none amount rates present =
    sums_agree variables _ (λ x. 0) (λ x h. omega arith) ∙ sum_of_zeros variables ∙ sym (mul-zero amount)
sum_of_shares variables (some a) amount rates present =
    sums_agree variables _ (λ x. cond (eqb a x) (amount * rates a) 0) (λ x h. by_case x (ℕ_discrete a x))
    ∙ sum_at_one variables a (amount * rates a) present
  where
    by_case : (x : ℕ) → Dec (a ≡ x) → cond (eqb a x) amount 0 * rates x ≡ cond (eqb a x) (amount * rates a) 0
    by_case x (yes e) = rw (e, eq-eqb x x refl)
    by_case x (no apart) = rw (ne_eqb a x apart) (omega arith)

-- ---- one executed assignment

pub step_balances : (variables constants d : ℕ) (source : Source) (before : List ℕ) (full rates : ℕ → ℕ)
    → AssignmentPresent variables constants (d ≔ source)
    → residue (sum_below variables (λ x. full x * rate_step (d ≔ source) before rates x))
    ≡ residue (sum_below variables (λ x. full_step (d ≔ source) before full x * rates x))
unfolding AssignmentPresent rate_step full_step
step_balances variables constants d source before full rates present =
    ap residue rates_on ∙ same_terms others others _ _ refl (residue_product_right bar given) ∙ ap residue (sym adjoints_back)
    ∙ sums_agree_in_residue variables _ _ (λ x h. sym (reduced x))
  where
    bar : ℕ
    bar = full d

    given : ℕ
    given = rate_given source before rates

    operands : OperandPresent variables (first_read source) × OperandPresent variables (second_read source)
    operands = operands_present variables constants source present.1

    first : ℕ → ℕ
    first = share (first_read source) (first_factor source before * bar)

    second : ℕ → ℕ
    second = share (second_read source) (second_factor source before * bar)

    -- what neither direction changes: all but the assigned variable
    kept : ℕ → ℕ
    kept x = cond (eqb d x) 0 (full x) * rates x

    others : ℕ
    others = sum_below variables kept

    assigned_apart : (x : ℕ) → Dec (d ≡ x) → full x * cond (eqb d x) (residue given) (rates x) ≡ kept x + cond (eqb d x) (bar * residue given) 0
    assigned_apart x (yes e) = rw (e, eq-eqb x x refl) (omega arith)
    assigned_apart x (no apart) = rw (ne_eqb d x apart) (omega arith)

    rates_on : sum_below variables (λ x. full x * rate_step (d ≔ source) before rates x) ≡ others + bar * residue given
    rates_on =
        sums_agree variables _ _ (λ x h. assigned_apart x (ℕ_discrete d x)) ∙ sum_of_sums variables kept _
        ∙ ap (λ y. others + y) (sum_at_one variables d _ present.0)

    adjoints_back : sum_below variables (λ x. kept x + (first x * rates x + second x * rates x)) ≡ others + bar * given
    adjoints_back =
        let firsts = sum_of_shares variables (first_read source) (first_factor source before * bar) rates operands.0 in
        let seconds = sum_of_shares variables (second_read source) (second_factor source before * bar) rates operands.1 in
        sum_of_sums variables kept _
        ∙ ap (λ y. others + y) (sum_of_sums variables (λ x. first x * rates x) (λ x. second x * rates x) ∙ rw (firsts, seconds) (omega arith))

    reduced : (x : ℕ) → residue (full_step (d ≔ source) before full x * rates x) ≡ residue (kept x + (first x * rates x + second x * rates x))
    reduced x = ap residue (mul_comm _ (rates x)) ∙ residue_product_right (rates x) _ ∙ ap residue (omega arith)

-- ---- a whole trace

-- every executed assignment names only what is there
unfoldable pub Named : (variables constants : ℕ) → Trace → Type 0
unfolding AssignmentPresent
Named variables constants [] = Unit {0}
Named variables constants (e ∷ earlier) = AssignmentPresent variables constants e.assignment × Named variables constants earlier

assignment_balances : (variables constants : ℕ) (b : Assignment) (before : List ℕ) (full rates : ℕ → ℕ) → AssignmentPresent variables constants b
    → residue (sum_below variables (λ x. full x * rate_step b before rates x)) ≡ residue (sum_below variables (λ x. full_step b before full x * rates x))
assignment_balances variables constants (d ≔ source) = step_balances variables constants d source

pub trace_balances : (variables constants : ℕ) (trace : Trace) → Named variables constants trace → (full rates : ℕ → ℕ)
    → residue (sum_below variables (λ x. full x * rates_along trace rates x)) ≡ residue (sum_below variables (λ x. full_swept trace full x * rates x))
unfolding Named rates_along full_swept
trace_balances variables constants [] named full rates = refl
trace_balances variables constants (e ∷ earlier) named full rates =
    assignment_balances variables constants e.assignment e.before full (rates_along earlier rates) named.0
    ∙ trace_balances variables constants earlier named.1 (full_step e.assignment e.before full) rates

-- ---- an execution

performed_named : (variables : ℕ) (constants : List ℕ) (p : ℕ) (b : Assignment) (s m : Progress residues)
    → performed residues constants p b s ≡ through m → AssignmentPresent variables (length constants) b → Named variables (length constants) s.trace
    → Named variables (length constants) m.trace
unfolding Named
performed_named variables constants p (d ≔ source) s m performs present named =
    let was = was_performed residues constants p d source s m performs in
    subst (λ (now : Progress residues). Named variables (length constants) now.trace) (sym was.goes) (present, named)

mutual
  unfolding Present

  pub runs_named : {t : Tree Assignment Test} {p : ℕ} {s e : Progress residues} {constants : List ℕ} (variables : ℕ) → Runs residues constants t p s e
      → Present variables (length constants) t → Named variables (length constants) s.trace → Named variables (length constants) e.trace
  runs_named variables stay present named = named
  runs_named {constants = constants} variables (row performs rest) present named =
      runs_named variables rest present.1 (performed_named variables constants _ _ _ _ performs present.0 named)
  runs_named variables (left test first rest) present named =
      runs_named variables rest present.3 (runs_named variables first present.1 named)
  runs_named variables (right test second rest) present named =
      runs_named variables rest present.3 (runs_named variables second present.2 named)
  runs_named variables (last body rest) present named = runs_named variables rest present.1 (runs_named variables body present.0 named)
  runs_named variables (more body rest) present named = runs_named variables rest present (runs_named variables body present.0 named)
  runs_named variables (tested loop rest) present named = runs_named variables rest present.1 (rounds_named variables loop present.0 named)

  rounds_named : {f : Test} {a : Tree Assignment Test} {p most count : ℕ} {s e : Progress residues} {constants : List ℕ} (variables : ℕ)
      → Rounds residues constants f a p most s count e → Present variables (length constants) a → Named variables (length constants) s.trace
      → Named variables (length constants) e.trace
  rounds_named variables spent present named = named
  rounds_named variables (fails test) present named = named
  rounds_named variables (turns test body later) present named = rounds_named variables later present (runs_named variables body present named)
