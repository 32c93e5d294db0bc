-- The sheet's marks, row by row, are the bytes of its lines.
use Prim.Native.Nat.{ℕ, zero, suc, ◌+◌, ◌<◌}
use native.Mathlib.Omega.{arith}
use mathlib.Core.Path.{◌≡◌, refl, ap, subst, ◌∙◌}
use mathlib.Core.List.{List, [], ◌∷◌, map}
use lib.ListN.{length, get_or, length-map}
use Rattle.sheet.specs.Tree.{Tree, done, one, fork, again, rows, Line, flat, basic, if_line, else_line, end_if, repeat, end_repeat}
use Rattle.sheet.specs.Rows.{Assignment, Test, SheetLine}
use Rattle.sheet.specs.Sheets.{Sheet}
use Rattle.sheet.proofs.RowsCounted.{lines_counted}
use Rattle.sets.specs.VariableSets.{VariableSet}
use Rattle.sets.specs.Marks.{Marked, MarkedTest, numbered, mark_by, marked_by}
use Rattle.sets.specs.Rounds.{sets_in, sets_of, varied, useful, required, marked}
use Rattle.sets.specs.MarkBytes.{byte_of, mark_bytes}
use Rattle.sets.specs.Inner.RowBytes.{byte_at, bytes_of}
use Rattle.sets.proofs.RowByRow.{LinesAt}

-- a list's numbers are f's from p on
abbrev From : (ℕ → ℕ) → List ℕ → ℕ → Type 0
From f [] p = Unit {0}
From f (x ∷ xs) p = (f p ≡ x) × From f xs (suc p)

from_at : (f : ℕ → ℕ) (xs : List ℕ) (p i : ℕ) → From f xs p → i < length xs → f (p + i) ≡ get_or xs i 0
from_at f [] p i h l = absurd (omega arith)
from_at f (x ∷ xs) p zero h l = let here : p + 0 ≡ p = omega arith in rw here h.0
from_at f (x ∷ xs) p (suc i) h l = let here : p + suc i ≡ suc p + i = omega arith in rw here (from_at f xs (suc p) i h.1 (omega arith))

pub numbered_rows : (mark : ℕ → Assignment → Marked) (t : Tree Assignment Test) (p : ℕ) → rows (numbered mark t p) ≡ rows t
unfolding numbered rows
numbered_rows mark done p = refl
numbered_rows mark (one b k) p = omega (arith, numbered_rows mark k (suc p))
numbered_rows mark (fork f a b k) p =
    let split = suc p + rows a in
    let end = suc split + rows b in
    omega (arith, numbered_rows mark a (suc p), numbered_rows mark b (suc split), numbered_rows mark k (suc end))
numbered_rows mark (again m a k) p = omega (arith, numbered_rows mark a (suc p), numbered_rows mark k (suc (suc p + rows a)))

module _ (line : ℕ → SheetLine) (v u r : List VariableSet) where
  byte_line : (p : ℕ) (l : SheetLine) → line p ≡ l → bytes_of v u r line p ≡ byte_at v u r p l
  byte_line p l e = ap (byte_at v u r p) e

  abbrev BytesFrom : List (Line Marked MarkedTest) → ℕ → Type 0
  BytesFrom ls p = From (bytes_of v u r line) (map byte_of ls) p

  bytes_from : (t : Tree Assignment Test) (p q : ℕ) (rest : List (Line Marked MarkedTest)) → p + rows t ≡ q → LinesAt line t p → BytesFrom rest q
      → BytesFrom (flat (numbered (mark_by (sets_in v u r)) t p) rest) p
  unfolding LinesAt numbered flat rows byte_of byte_at mark_by
  bytes_from done p q rest e l h = subst (BytesFrom rest) (omega arith) h
  bytes_from (one b k) p q rest e l h = (byte_line p (basic b) l.0, bytes_from k (suc p) q rest (omega arith) l.1 h)
  bytes_from (fork f a b k) p q rest e l h =
      let split = suc p + rows a in
      let end = suc split + rows b in (
        byte_line p (if_line f) l.0,
        bytes_from a (suc p) split _ refl l.1 (
          byte_line split else_line l.2,
          bytes_from b (suc split) end _ refl l.3
              (byte_line end end_if l.4, bytes_from k (suc end) q rest (omega arith) l.5 h),
        ),
      )
  bytes_from (again m a k) p q rest e l h =
      let end = suc p + rows a in (
        byte_line p (repeat m) l.0,
        bytes_from a (suc p) end _ refl l.1
            (byte_line end end_repeat l.2, bytes_from k (suc end) q rest (omega arith) l.3 h),
      )

pub bytes_counted : (sheet : Sheet) → length (mark_bytes sheet) ≡ rows sheet.body
unfolding mark_bytes marked marked_by
bytes_counted sheet =
    length-map (flat (marked sheet) []) byte_of ∙ lines_counted (marked sheet)
    ∙ numbered_rows (mark_by (sets_of sheet)) sheet.body 0

pub marks_listed : (sheet : Sheet) (line : ℕ → SheetLine) → LinesAt line sheet.body 0 → (p : ℕ) → p < rows sheet.body
    → byte_at (varied sheet) (useful sheet) (required sheet) p (line p) ≡ get_or (mark_bytes sheet) p 0
unfolding mark_bytes marked marked_by
marks_listed sheet line l p h =
    let v = varied sheet in
    let u = useful sheet in
    let r = required sheet in
    let tree = numbered (mark_by (sets_in v u r)) sheet.body 0 in
    let here : 0 + p ≡ p = omega arith in
    rw here at
    (from_at (bytes_of v u r line) (map byte_of (flat tree [])) 0 p (bytes_from line v u r sheet.body 0 _ [] refl l tt)
    (omega (arith, bytes_counted sheet)))
