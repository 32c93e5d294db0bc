-- The byte of a row's marks: what is read back of it, and a list of them.
use Prim.Native.Nat.{ℕ, zero, suc, ◌+◌, ◌*◌, ◌/◌, ◌%◌, ◌≤◌, ◌<◌}
use native.Mathlib.Omega.{arith}
use native.Mathlib.Numerals.{add-one}
use native.Mathlib.Decide.{ℕ_discrete}
use mathlib.Core.Path.{◌≡◌, refl, sym, ap, ◌∙◌}
use mathlib.Core.Bool.{Bool, true, false, cond}
use mathlib.Core.List.{List, [], ◌∷◌, ◌++◌}
use lib.ListN.{length, get_or, set, take, drop, length-set}
use lib.Dec.{eqb}
use lib.Seq.{get_or-set_same, get_or-set_other, set_comm, set-set, set-get_or}
use Rattle.sheet.specs.Tree.{basic, if_line, else_line, end_if, repeat, end_repeat}
use Rattle.sheet.specs.Rows.{Assignment, SheetLine}
use Rattle.sheet.specs.Inner.Kinds.{assigns, part_of}
use Rattle.sets.specs.VariableSets.{VariableSet}
use Rattle.sets.specs.Rounds.{set_at}
use Rattle.sets.specs.Inner.Analyses.{Which, Varied, Useful, Required, Lends, LendsAt, known_at, marks_left}
use Rattle.sets.specs.Transfers.{Activity}
use Rattle.sets.specs.Marks.{mark_by, activity_at}
use Rattle.sets.specs.MarkBytes.{weight, weight_if, byte_by, bit_of}
use Rattle.sets.specs.Inner.RowEquations.{known_of_line}
use Rattle.sets.specs.Inner.RowBytes.{byte_at, byte_for, bytes_of, written}
use Rattle.sets.proofs.Truths.{never}

-- ---- the marks read back

pub record ReadBack (byte : ℕ) (known : Activity) (recorded : Bool) : Type 0 where
  pub varied_a : bit_of byte weight.varied_a ≡ known.varied_a
  pub varied_b : bit_of byte weight.varied_b ≡ known.varied_b
  pub active : bit_of byte weight.active ≡ known.active
  pub saved : bit_of byte weight.saved ≡ recorded

bit : Bool → ℕ
bit b = cond b 1 0

-- a mark counts its weight or nothing
record Counts (b : Bool) (w : ℕ) : Type 0 where
  is : weight_if b w ≡ w * bit b
  small : bit b ≤ 1
  back : (digit : ℕ) → digit ≡ bit b → eqb digit 1 ≡ b

counts : (b : Bool) (w : ℕ) → Counts b w
unfolding bit
counts true w = record { is = omega arith; small = omega arith; back = λ digit e. rw e }
counts false w = record { is = omega arith; small = omega arith; back = λ digit e. rw e }

pub read_back : (known : Activity) (recorded : Bool) → ReadBack (byte_by known recorded) known recorded
read_back known recorded =
    let a = counts known.varied_a weight.varied_a in
    let b = counts known.varied_b weight.varied_b in
    let c = counts known.active weight.active in
    let d = counts recorded weight.saved in
    record {
      varied_a = a.back (byte_by known recorded / weight.varied_a % 2) (omega arith);
      varied_b = b.back (byte_by known recorded / weight.varied_b % 2) (omega arith);
      active = c.back (byte_by known recorded / weight.active % 2) (omega arith);
      saved = d.back (byte_by known recorded / weight.saved % 2) (omega arith);
    }

-- ---- by the cases that the code tells apart

pub assigned_known : (varied useful : List VariableSet) (p : ℕ) (l : SheetLine) (b : Assignment) → l ≡ basic b
    → known_at Required varied useful p b ≡ known_of_line (set_at varied p) (set_at useful (suc p)) l
unfolding known_at known_of_line
assigned_known varied useful p l b e = rw (e, add-one p)

module _ (varied useful required : List VariableSet) (p : ℕ) where
  pub no_byte : (l : SheetLine) → assigns (part_of l) ≡ false → 0 ≡ byte_at varied useful required p l
  unfolding byte_at
  no_byte (basic b) h = never (sym h)
  no_byte (if_line f) h = refl
  no_byte else_line h = refl
  no_byte end_if h = refl
  no_byte (repeat m) h = refl
  no_byte end_repeat h = refl

  pub assigned_byte : {l : SheetLine} {known : Activity} {needed : ℕ} (b : Assignment) → l ≡ basic b
      → known ≡ known_of_line (set_at varied p) (set_at useful (suc p)) l → needed ≡ set_at required p
      → byte_for known needed b ≡ byte_at varied useful required p l
  unfolding byte_at mark_by known_of_line activity_at
  assigned_byte b e knows is = rw e (rw (knows, e, is))

-- ---- what a row's byte asks of the required sets

module _ (varied useful : List VariableSet) (p : ℕ) where
  pub byte_same : (required required' : List VariableSet) → set_at required p ≡ set_at required' p → (l : SheetLine)
      → byte_at varied useful required p l ≡ byte_at varied useful required' p l
  unfolding byte_at mark_by
  byte_same required required' e (basic b) = rw e
  byte_same required required' e (if_line f) = refl
  byte_same required required' e else_line = refl
  byte_same required required' e end_if = refl
  byte_same required required' e (repeat m) = refl
  byte_same required required' e end_repeat = refl

-- ---- a list written from the start

pub written_length : (f : ℕ → ℕ) (n : ℕ) (xs : List ℕ) → length (written f n xs) ≡ length xs
unfolding written
written_length f zero xs = refl
written_length f (suc n) xs = length-set (written f n xs) n (f n) ∙ written_length f n xs

written_past : (f : ℕ → ℕ) (n : ℕ) (xs : List ℕ) (m v : ℕ) → n ≤ m → written f n (set xs m v) ≡ set (written f n xs) m v
unfolding written
written_past f zero xs m v h = refl
written_past f (suc n) xs m v h =
    ap (λ ys. set ys n (f n)) (written_past f n xs m v (omega arith)) ∙ set_comm (written f n xs) m n v (f n) (λ e. omega arith)

-- what stood in a place that is written makes no difference
written_into : (f : ℕ → ℕ) (n : ℕ) (xs : List ℕ) (m v : ℕ) → m < n → written f n (set xs m v) ≡ written f n xs
unfolding written
written_into f zero xs m v h = absurd (omega arith)
written_into f (suc n) xs m v h = go (ℕ_discrete m n) (written_into f n xs m v)
  where
    go : Dec (m ≡ n) → (m < n → written f n (set xs m v) ≡ written f n xs) → set (written f n (set xs m v)) n (f n) ≡ set (written f n xs) n (f n)
    go (yes e) more = rw e (ap (λ ys. set ys n (f n)) (written_past f n xs n v (omega arith)) ∙ set-set (written f n xs) n v (f n))
    go (no e) more = ap (λ ys. set ys n (f n)) (more (omega arith))

written_self : (f : ℕ → ℕ) (n : ℕ) (xs : List ℕ) → ((i : ℕ) → i < n → get_or xs i 0 ≡ f i) → written f n xs ≡ xs
unfolding written
written_self f zero xs h = refl
written_self f (suc n) xs h =
    ap (λ ys. set ys n (f n)) (written_self f n xs (λ i l. h i (omega arith))) ∙ ap (set xs n) (sym (h n (omega arith))) ∙ set-get_or xs n 0

pub written_same : (f g : ℕ → ℕ) (n : ℕ) (xs : List ℕ) → ((i : ℕ) → i < n → f i ≡ g i) → written f n xs ≡ written g n xs
unfolding written
written_same f g zero xs h = refl
written_same f g (suc n) xs h = cc (written_same f g n xs (λ i l. h i (omega arith)), h n (omega arith))

-- a list's own numbers, written over the start of another
store_next : (n : ℕ) (bs xs : List ℕ) → n < length bs → n < length xs
    → set (take n bs ++ drop n xs) n (get_or bs n 0) ≡ take (suc n) bs ++ drop (suc n) xs
store_next n [] xs h l = absurd (omega arith)
store_next n (b ∷ bs) [] h l = absurd (omega arith)
store_next zero (b ∷ bs) (x ∷ xs) h l = refl
store_next (suc n) (b ∷ bs) (x ∷ xs) h l = ap (λ ys. b ∷ ys) (store_next n bs xs (omega arith) (omega arith))

pub written_first : (bs : List ℕ) (n : ℕ) (xs : List ℕ) → n ≤ length bs → n ≤ length xs → written (λ p. get_or bs p 0) n xs ≡ take n bs ++ drop n xs
unfolding written
written_first bs zero xs h l = refl
written_first bs (suc n) xs h l =
    ap (λ ys. set ys n (get_or bs n 0)) (written_first bs n xs (omega arith) (omega arith)) ∙ store_next n bs xs (omega arith) (omega arith)

-- ---- bytes written in the order of a walk, which may go back

pub record MarkedSoFar (line : ℕ → SheetLine) (varied useful : List VariableSet) (n : ℕ) (before : List ℕ) (sets : List VariableSet) (marks : List ℕ) (i : ℕ) : Type 0 where
  pub long : length marks ≡ length before
  over : (f : ℕ → ℕ) → written f n marks ≡ written f n before
  passed : (k : ℕ) → k < i → get_or marks k 0 ≡ byte_at varied useful sets k (line k)

module _ (line : ℕ → SheetLine) (varied useful : List VariableSet) (n : ℕ) (before : List ℕ) where
  pub marking_starts : (sets : List VariableSet) → MarkedSoFar line varied useful n before sets before 0
  marking_starts sets = record { long = refl; over = λ f. refl; passed = λ k h. absurd (omega arith) }

  -- row i was marked, and the walk goes on after row p
  pub marking_on : (sets next : List VariableSet) (marks : List ℕ) (i p byte : ℕ) → MarkedSoFar line varied useful n before sets marks i → p ≤ i → i < n
      → n ≤ length before → byte ≡ byte_at varied useful sets i (line i) → ((k : ℕ) → k ≤ p → set_at next k ≡ set_at sets k)
      → MarkedSoFar line varied useful n before next (set marks i byte) (p + 1)
  marking_on sets next marks i p byte m le h room is same =
      record {
        long = length-set marks i byte ∙ m.long;
        over = λ f. written_into f n marks i byte h ∙ m.over f;
        passed = λ k l. go k (ℕ_discrete k i) l ∙ sym (byte_same varied useful k next sets (same k (omega arith)) (line k));
      }
    where
      go : (k : ℕ) → Dec (k ≡ i) → k < p + 1 → get_or (set marks i byte) k 0 ≡ byte_at varied useful sets k (line k)
      go k (yes e) l = rw e (get_or-set_same marks i byte 0 (omega (arith, m.long)) ∙ is)
      go k (no e) l = get_or-set_other marks i k byte 0 e ∙ m.passed k (omega arith)

  pub marking_ends : (sets : List VariableSet) (marks : List ℕ) (i : ℕ) → MarkedSoFar line varied useful n before sets marks i → n ≤ i
      → marks ≡ written (bytes_of varied useful sets line) n before
  marking_ends sets marks i m h =
      sym (written_self (bytes_of varied useful sets line) n marks (λ k l. m.passed k (omega arith))) ∙ m.over (bytes_of varied useful sets line)

-- ---- and so by the analysis: that of the required variables marks the rows, the others leave the marks as they were

abbrev pub MarkingSoFar : Which → (line : ℕ → SheetLine) (varied useful : List VariableSet) (n : ℕ) (before : List ℕ) (sets : List VariableSet) (marks : List ℕ) (i : ℕ) → Type 0
MarkingSoFar Varied line varied useful n before sets marks i = marks ≡ before
MarkingSoFar Useful line varied useful n before sets marks i = marks ≡ before
MarkingSoFar Required line varied useful n before sets marks i = MarkedSoFar line varied useful n before sets marks i

pub marks_start : (which : Which) (line : ℕ → SheetLine) (varied useful : List VariableSet) (n : ℕ) (before : List ℕ) (sets : List VariableSet)
    → MarkingSoFar which line varied useful n before sets before 0
marks_start Varied line varied useful n before sets = refl
marks_start Useful line varied useful n before sets = refl
marks_start Required line varied useful n before sets = marking_starts line varied useful n before sets

pub marks_end : (which : Which) (line : ℕ → SheetLine) (varied useful : List VariableSet) (n : ℕ) (before : List ℕ) (sets : List VariableSet) (marks : List ℕ) (i : ℕ)
    → MarkingSoFar which line varied useful n before sets marks i → n ≤ i → marks ≡ marks_left which varied useful sets line n before
marks_end Varied line varied useful n before sets marks i m h = m
marks_end Useful line varied useful n before sets marks i m h = m
marks_end Required line varied useful n before sets marks i m h = marking_ends line varied useful n before sets marks i m h

pub marks_lent : (which : Which) (line : ℕ → SheetLine) (varied useful : List VariableSet) (n : ℕ) (before : List ℕ) (sets : List VariableSet) (marks : List ℕ) (i p : ℕ)
    → MarkingSoFar which line varied useful n before sets marks i → Lends which varied useful (length before) n → p < n
    → LendsAt which varied useful (length marks) p
marks_lent Varied line varied useful n before sets marks i p m lends h = tt
marks_lent Useful line varied useful n before sets marks i p m lends h = tt
marks_lent Required line varied useful n before sets marks i p m lends h = (omega arith, omega arith, omega (arith, m.long))
