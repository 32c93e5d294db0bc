-- Where the lines of a block's rows stand among a tree's lines: behind an "if" its branches, behind an "else" its second branch, behind a
-- repeat its body.
use Prim.Native.Nat.{ℕ, zero, suc}
use mathlib.Core.Path.{◌≡◌, refl, subst}
use mathlib.Core.List.{List, [], ◌∷◌}
use lib.ListN.{drop}
use lib.Seq.{drop-nil}
use Rattle.sheet.specs.Tree.{done, one, fork, again, flat, basic, if_line, else_line, end_if, repeat, end_repeat}
use Rattle.table.specs.TableRows.{Table, TableLine, lines_of}

-- a tree's lines up to a mark, and what is behind it
pub record Branch (mark : TableLine) (rest : List TableLine) : Type 0 where
  pub tree : Table
  pub behind : List TableLine
  pub is : rest ≡ flat tree (mark ∷ behind)

abbrev pub Stands : List TableLine → Type 0
Stands [] = Unit {0}
Stands (basic b ∷ rest) = Unit {0}
Stands (if_line f ∷ rest) = Branch else_line rest
Stands (else_line ∷ rest) = Branch end_if rest
Stands (end_if ∷ rest) = Unit {0}
Stands (repeat m ∷ rest) = Branch end_repeat rest
Stands (end_repeat ∷ rest) = Unit {0}

-- what holds of the lines from each row on
abbrev pub FromEach : (List TableLine → Type 0) → List TableLine → Type 0
FromEach P lines = (p : ℕ) → P (drop p lines)

module _ (P : List TableLine → Type 0) where
  pub from_each_next : (line : TableLine) (rest : List TableLine) → P (line ∷ rest) → FromEach P rest → FromEach P (line ∷ rest)
  from_each_next line rest here later zero = here
  from_each_next line rest here later (suc p) = later p

  pub from_each_end : P [] → FromEach P []
  from_each_end here p = rw (drop-nil p) here

branch : (mark : TableLine) (t : Table) (behind : List TableLine) → Branch mark (flat t (mark ∷ behind))
branch mark t behind = record { tree = t; behind = behind; is = refl }

all_stand : (t : Table) (rest : List TableLine) → FromEach Stands rest → FromEach Stands (flat t rest)
unfolding flat
all_stand done rest later = later
all_stand (one b k) rest later = from_each_next Stands (basic b) _ tt (all_stand k rest later)
all_stand (fork f a b k) rest later =
    let lines_b = flat b (end_if ∷ flat k rest) in
    let after_b = from_each_next Stands end_if _ tt (all_stand k rest later) in
    let after_a = from_each_next Stands else_line _ (branch end_if b (flat k rest)) (all_stand b _ after_b) in
    from_each_next Stands (if_line f) _ (branch else_line a lines_b) (all_stand a _ after_a)
all_stand (again m a k) rest later =
    let after_a = from_each_next Stands end_repeat _ tt (all_stand k rest later) in
    from_each_next Stands (repeat m) _ (branch end_repeat a (flat k rest)) (all_stand a _ after_a)

pub stands_at : (t : Table) (p : ℕ) (lines : List TableLine) → drop p (lines_of t) ≡ lines → Stands lines
unfolding lines_of
stands_at t p lines e = subst Stands e (all_stand t [] (from_each_end Stands tt) p)
