-- A sheet's equations are its rows' equations in turn, if each row's line and partner are right.
use Prim.Native.Nat.{ℕ, zero, suc, ◌+◌, ◌-◌, ◌≤◌, ◌<◌}
use native.Mathlib.Omega.{arith}
use mathlib.Core.Path.{◌≡◌, refl, sym, ap, subst, ◌∙◌}
use mathlib.Core.List.{List, [], ◌∷◌}
use lib.ListN.{get_or}
use Rattle.sheet.specs.Tree.{Tree, done, one, fork, again, rows, basic, if_line, else_line, end_if, repeat, end_repeat}
use Rattle.sheet.specs.Rows.{Assignment, Test, SheetLine}
use Rattle.sets.specs.VariableSets.{VariableSet}
use Rattle.sets.specs.Equations.{Equation, passes, joins, unchanged, left_from, forward, backward}
use Rattle.sets.specs.Partners.{CameFrom, GoesTo}
use Rattle.sets.specs.Inner.RowEquations.{forward_of, backward_of, listed}

-- ---- equations by number

-- n of them from the i-th on, then `rest`
up : (ℕ → Equation) → (i n : ℕ) → List Equation → List Equation
up e i zero rest = rest
up e i (suc n) rest = e i ∷ up e (suc i) n rest

-- the same, the last first
down : (ℕ → Equation) → (i n : ℕ) → List Equation → List Equation
down e i zero rest = rest
down e i (suc n) rest = down e (suc i) n (e i ∷ rest)

up_both : (e : ℕ → Equation) (i m n : ℕ) (rest : List Equation) → up e i (m + n) rest ≡ up e i m (up e (i + m) n rest)
unfolding up
up_both e i zero n rest = let here : i + 0 ≡ i = omega arith in let all : 0 + n ≡ n = omega arith in rw (here, all)
up_both e i (suc m) n rest =
    let all : suc m + n ≡ suc (m + n) = omega arith in
    let here : i + suc m ≡ suc i + m = omega arith in
    rw (all, here) (ap (λ es. e i ∷ es) (up_both e (suc i) m n rest))

down_both : (e : ℕ → Equation) (i m n : ℕ) (rest : List Equation) → down e i (m + n) rest ≡ down e (i + m) n (down e i m rest)
unfolding down
down_both e i zero n rest = let here : i + 0 ≡ i = omega arith in let all : 0 + n ≡ n = omega arith in rw (here, all)
down_both e i (suc m) n rest =
    let all : suc m + n ≡ suc (m + n) = omega arith in
    let here : i + suc m ≡ suc i + m = omega arith in
    rw (all, here) (down_both e (suc i) m n (e i ∷ rest))

listed_up : (e : ℕ → Equation) (i n : ℕ) → listed e i n ≡ up e i n []
unfolding listed up
listed_up e i zero = refl
listed_up e i (suc n) = ap (λ es. e i ∷ es) (listed_up e (suc i) n)

down_last : (e : ℕ → Equation) (i m : ℕ) (rest : List Equation) → down e i (suc m) rest ≡ e (i + m) ∷ down e i m rest
unfolding down
down_last e i m rest =
    let count : m + 1 ≡ suc m = omega arith in
    subst (λ n. down e i n rest ≡ e (i + m) ∷ down e i m rest) count (down_both e i m 1 rest)

listed_down : (e : ℕ → Equation) (n i m : ℕ) → i + m ≡ n → listed (λ j. e (n - suc j)) i m ≡ down e 0 m []
unfolding listed down
listed_down e n i zero h = refl
listed_down e n i (suc m) h =
    let here : n - suc i ≡ 0 + m = omega arith in
    cc (down_last e 0 m [], ap e here, listed_down e n (suc i) m (omega arith))

-- the equations of a block's rows and of those inside
up_again : (e : ℕ → Equation) (p x z : ℕ) (rest : List Equation)
    → up e p (2 + (x + z)) rest ≡ e p ∷ up e (suc p) x (e (suc p + x) ∷ up e (suc (suc p + x)) z rest)
unfolding up
up_again e p x z rest =
    let count : 2 + (x + z) ≡ suc (x + suc z) = omega arith in
    rw count (ap (λ es. e p ∷ es) (up_both e (suc p) x (suc z) rest))

up_fork : (e : ℕ → Equation) (p x y z : ℕ) (rest : List Equation)
    → let q = suc p + x in let r = suc q + y in
    up e p (3 + (x + y + z)) rest ≡ e p ∷ up e (suc p) x (e q ∷ up e (suc q) y (e r ∷ up e (suc r) z rest))
unfolding up
up_fork e p x y z rest =
    let count : 3 + (x + y + z) ≡ 2 + (x + (y + suc z)) = omega arith in
    rw count (cc (up_again e p x (y + suc z) rest, up_both e (suc (suc p + x)) y (suc z) rest))

down_again : (e : ℕ → Equation) (p x z : ℕ) (rest : List Equation)
    → down e p (2 + (x + z)) rest ≡ down e (suc (suc p + x)) z (e (suc p + x) ∷ down e (suc p) x (e p ∷ rest))
unfolding down
down_again e p x z rest =
    let count : 2 + (x + z) ≡ suc (x + suc z) = omega arith in
    rw count (down_both e (suc p) x (suc z) (e p ∷ rest))

down_fork : (e : ℕ → Equation) (p x y z : ℕ) (rest : List Equation)
    → let q = suc p + x in let r = suc q + y in
    down e p (3 + (x + y + z)) rest ≡ down e (suc r) z (e r ∷ down e (suc q) y (e q ∷ down e (suc p) x (e p ∷ rest)))
unfolding down
down_fork e p x y z rest =
    let count : 3 + (x + y + z) ≡ 2 + (x + (y + suc z)) = omega arith in
    rw count (cc (down_again e p x (y + suc z) rest, down_both e (suc (suc p + x)) y (suc z) (e (suc p + x) ∷ down e (suc p) x (e p ∷ rest))))

-- ---- a tree's lines, by number

unfoldable pub LinesAt : (ℕ → SheetLine) → Tree Assignment Test → ℕ → Type 0
unfolding rows
LinesAt line done p = Unit {0}
LinesAt line (one b k) p = (line p ≡ basic b) × LinesAt line k (suc p)
LinesAt line (fork f a b k) p =
    let split = suc p + rows a in
    let end = suc split + rows b in
    (line p ≡ if_line f) × LinesAt line a (suc p) × (line split ≡ else_line) × LinesAt line b (suc split) × (line end ≡ end_if)
    × LinesAt line k (suc end)
LinesAt line (again m a k) p =
    let end = suc p + rows a in
    (line p ≡ repeat m) × LinesAt line a (suc p) × (line end ≡ end_repeat) × LinesAt line k (suc end)

module _ (line : ℕ → SheetLine) (partners : List ℕ) (turn turns : ℕ → Assignment → VariableSet → VariableSet)
    (n : ℕ) (agree : (p : ℕ) (b : Assignment) → p < n → line p ≡ basic b → turn p b ≡ turns p b) where
  forward_at : ℕ → Equation
  forward_at p = forward_of (turn p) (line p) p (get_or partners p 0)

  backward_at : ℕ → Equation
  backward_at p = backward_of (turn p) (line p) p (get_or partners p 0)

  forward_line : (p c : ℕ) (l : SheetLine) → line p ≡ l → get_or partners p 0 ≡ c → forward_at p ≡ forward_of (turn p) l p c
  unfolding forward_at
  forward_line p c l e f = rw (e, f)

  backward_line : (p c : ℕ) (l : SheetLine) → line p ≡ l → get_or partners p 0 ≡ c → backward_at p ≡ backward_of (turn p) l p c
  unfolding backward_at
  backward_line p c l e f = rw (e, f)

  forward_up : (t : Tree Assignment Test) (p : ℕ) (rest : List Equation) → p + rows t ≤ n → LinesAt line t p → CameFrom partners t p
      → forward turns t p rest ≡ up forward_at p (rows t) rest
  unfolding forward rows up LinesAt CameFrom forward_of
  forward_up done p rest w l c = refl
  forward_up (one b k) p rest w l c =
      let count : 1 + rows k ≡ suc (rows k) = omega arith in
      rw count (cc (forward_line p _ (basic b) l.0 refl, agree p b (omega arith) l.0, forward_up k (suc p) rest (omega arith) l.1 c))
  forward_up (fork f a b k) p rest w l c =
      let q = suc p + rows a in
      let r = suc q + rows b in
      let third = joins q r (suc r) ∷ forward turns k (suc r) rest in
      let second = passes p (suc q) unchanged ∷ forward turns b (suc q) third in
      cc (
        up_fork forward_at p (rows a) (rows b) (rows k) rest,
        forward_line p _ (if_line f) l.0 refl,
        forward_line q p else_line l.2 c.1,
        forward_line r q end_if l.4 c.3,
        forward_up a (suc p) second (omega arith) l.1 c.0,
        forward_up b (suc q) third (omega arith) l.3 c.2,
        forward_up k (suc r) rest (omega arith) l.5 c.4,
      )
  forward_up (again m a k) p rest w l c =
      let q = suc p + rows a in
      cc (
        up_again forward_at p (rows a) (rows k) rest,
        forward_line p q (repeat m) l.0 c.0,
        forward_line q _ end_repeat l.2 c.3,
        forward_up a (suc p) (passes (left_from m (suc p) q) (suc q) unchanged ∷ forward turns k (suc q) rest) (omega arith) l.1 c.1,
        forward_up k (suc q) rest (omega arith) l.3 c.2,
      )

  backward_down : (t : Tree Assignment Test) (p : ℕ) (rest : List Equation) → p + rows t ≤ n → LinesAt line t p → GoesTo partners t p
      → backward turns t p rest ≡ down backward_at p (rows t) rest
  unfolding backward rows down LinesAt GoesTo backward_of
  backward_down done p rest w l c = refl
  backward_down (one b k) p rest w l c =
      let count : 1 + rows k ≡ suc (rows k) = omega arith in
      let first = passes (suc p) p (turns p b) ∷ rest in
      rw count (cc (backward_line p _ (basic b) l.0 refl, agree p b (omega arith) l.0, backward_down k (suc p) first (omega arith) l.1 c))
  backward_down (fork f a b k) p rest w l c =
      let q = suc p + rows a in
      let r = suc q + rows b in
      let first = joins (suc p) (suc q) p ∷ rest in
      let second = passes (suc r) q unchanged ∷ backward turns a (suc p) first in
      let third = passes (suc r) r unchanged ∷ backward turns b (suc q) second in
      cc (
        down_fork backward_at p (rows a) (rows b) (rows k) rest,
        backward_line p q (if_line f) l.0 c.0,
        backward_line q r else_line l.2 c.2,
        backward_line r _ end_if l.4 refl,
        backward_down a (suc p) first (omega arith) l.1 c.1,
        backward_down b (suc q) second (omega arith) l.3 c.3,
        backward_down k (suc r) third (omega arith) l.5 c.4,
      )
  backward_down (again m a k) p rest w l c =
      let q = suc p + rows a in
      let first = passes (left_from m q (suc p)) p unchanged ∷ rest in
      let second = joins (suc q) (suc p) q ∷ backward turns a (suc p) first in
      cc (
        down_again backward_at p (rows a) (rows k) rest,
        backward_line p _ (repeat m) l.0 c.3,
        backward_line q p end_repeat l.2 c.1,
        backward_down a (suc p) first (omega arith) l.1 c.0,
        backward_down k (suc q) second (omega arith) l.3 c.2,
      )

  -- the order of the sweeps
  pub forward_listed : (t : Tree Assignment Test) → rows t ≤ n → LinesAt line t 0 → CameFrom partners t 0
      → listed (λ i. forward_of (turn i) (line i) i (get_or partners i 0)) 0 (rows t) ≡ forward turns t 0 []
  unfolding forward_at
  forward_listed t w l c = listed_up forward_at 0 (rows t) ∙ sym (forward_up t 0 [] (omega arith) l c)

  pub backward_listed : (t : Tree Assignment Test) → rows t ≤ n → LinesAt line t 0 → GoesTo partners t 0
      → listed (λ i. let p = rows t - suc i in backward_of (turn p) (line p) p (get_or partners p 0)) 0 (rows t) ≡ backward turns t 0 []
  unfolding backward_at
  backward_listed t w l c = listed_down backward_at (rows t) 0 (rows t) (omega arith) ∙ sym (backward_down t 0 [] (omega arith) l c)
