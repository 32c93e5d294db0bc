-- A sheet's tree in its words, row by row: its rows stand there one after another, each says its line, and they are as many as the tree has.
use Prim.Native.Nat.{ℕ, zero, suc, ◌+◌, ◌*◌, ◌<◌}
use mathlib.Core.Path.{◌≡◌, refl, sym, ap, ◌∙◌, subst}
use mathlib.Core.List.{List, [], ◌∷◌, map}
use native.Mathlib.Omega.{arith}
use lib.ListN.{length, length-map}
use Rattle.sheet.specs.Bounds.{limit}
use Rattle.sheet.specs.Tree.{Tree, done, one, fork, again, flat, rows}
use Rattle.sheet.specs.Rows.{Assignment, Test, SheetLine, Row, sheet_row_of, tree_rows}
use Rattle.sheet.specs.Sheets.{row_at, rows_at}
use Rattle.sheet.specs.Inner.RowLines.{line_of_row, SaysLine, numbered_row}
use Rattle.sheet.proofs.RowsCounted.{lines_counted, rows_counted}
use Rattle.sheet.proofs.RowsBack.{line_back}

-- lines stand in the words from row p on
unfoldable pub StandsAt : (words : List ℕ) (first : ℕ) → List SheetLine → (p : ℕ) → Type 0
StandsAt words first [] p = Unit
StandsAt words first (l ∷ ls) p = (numbered_row words first p ≡ sheet_row_of l) × StandsAt words first ls (suc p)

stand_from : (words : List ℕ) (first : ℕ) (ls : List SheetLine) (p n place : ℕ) → place ≡ first + p * limit.row_words
    → map sheet_row_of ls ≡ rows_at words place n
    → StandsAt words first ls p
unfolding StandsAt rows_at
stand_from words first [] p n place e h = tt
stand_from words first (l ∷ ls) p zero place e h = let z : ◌≡◌ {A = ℕ} 0 1 = cc in absurd (omega arith)
stand_from words first (l ∷ ls) p (suc n) place e h =
    let this : row_at words place ≡ sheet_row_of l = cc in
    (ap (row_at words) (sym e) ∙ this, stand_from words first ls (suc p) n (place + limit.row_words) (omega arith) cc)

pub tree_stands : (words : List ℕ) (first n : ℕ) (t : Tree Assignment Test) → tree_rows t ≡ rows_at words first n → StandsAt words first (flat t []) 0
unfolding tree_rows
tree_stands words first n t h = stand_from words first (flat t []) 0 n first (omega arith) h

-- past a tree
pub stands_after : (words : List ℕ) (first : ℕ) (t : Tree Assignment Test) (rest : List SheetLine) (p : ℕ) {e : ℕ} → e ≡ p + rows t
    → StandsAt words first (flat t rest) p → StandsAt words first rest e
unfolding StandsAt flat rows
stands_after words first done rest p h s = let here : p ≡ _ = sym (h ∙ omega arith) in subst (StandsAt words first rest) here s
stands_after words first (one b k) rest p h s = stands_after words first k rest (suc p) (omega arith) s.1
stands_after words first (fork f a b k) rest p h s =
    let split = stands_after words first a _ (suc p) refl s.1 in
    let end = stands_after words first b _ (suc (suc p + rows a)) refl split.1 in
    stands_after words first k rest (suc (suc (suc p + rows a) + rows b)) (omega arith) end.1
stands_after words first (again m a k) rest p h s =
    let end = stands_after words first a _ (suc p) refl s.1 in
    stands_after words first k rest (suc (suc p + rows a)) (omega arith) end.1

-- ---- each row says its line

pub line_said : {r : Row} {l : SheetLine} → r ≡ sheet_row_of l → line_of_row r ≡ l
line_said {l = l} e = ap line_of_row e ∙ line_back l

line_says : {r : Row} (l : SheetLine) → r ≡ sheet_row_of l → SaysLine r
line_says l e = record { back = ap sheet_row_of (line_said e) ∙ sym e }

stands_say : (words : List ℕ) (first : ℕ) (ls : List SheetLine) (p q r : ℕ) → r ≡ p + q → q < length ls → StandsAt words first ls p
    → SaysLine (numbered_row words first r)
unfolding StandsAt
stands_say words first [] p q r e h s = absurd (omega arith)
stands_say words first (l ∷ ls) p zero r e h s = let here : r ≡ p = omega arith in rw here (line_says l s.0)
stands_say words first (l ∷ ls) p (suc q) r e h s = stands_say words first ls (suc p) q r (omega arith) (omega arith) s.1

-- what every one of a list's places has
abbrev pub Each : {A : Type 0} → (A → Type 0) → List A → Type 0
Each P [] = Unit {0}
Each P (x ∷ xs) = P x × Each P xs

each_said : (P : SheetLine → Type 0) (words : List ℕ) (first : ℕ) (ls : List SheetLine) (p q r : ℕ) → r ≡ p + q → q < length ls → StandsAt words first ls p
    → Each P ls
    → P (line_of_row (numbered_row words first r))
unfolding StandsAt
each_said P words first [] p q r e h s each = absurd (omega arith)
each_said P words first (l ∷ ls) p zero r e h s each =
    let here : r ≡ p = omega arith in rw here (subst P (sym (line_said s.0)) each.0)
each_said P words first (l ∷ ls) p (suc q) r e h s each = each_said P words first ls (suc p) q r (omega arith) (omega arith) s.1 each.1

pub rows_of_tree : (words : List ℕ) (first n : ℕ) (t : Tree Assignment Test) → tree_rows t ≡ rows_at words first n → n ≡ rows t
unfolding tree_rows
rows_of_tree words first n t e =
    sym (rows_counted words first n) ∙ ap length (sym e) ∙ length-map (flat t []) sheet_row_of ∙ lines_counted t

pub tree_says : (words : List ℕ) (first n : ℕ) (t : Tree Assignment Test) → tree_rows t ≡ rows_at words first n
    → (p : ℕ) → p < n → SaysLine (numbered_row words first p)
tree_says words first n t e p h =
    stands_say words first (flat t []) 0 p p (omega arith) (omega (arith, rows_of_tree words first n t e, lines_counted t))
    (tree_stands words first n t e)

-- and what every line of the tree has, each row's line has
pub tree_each : (P : SheetLine → Type 0) (words : List ℕ) (first n : ℕ) (t : Tree Assignment Test) → tree_rows t ≡ rows_at words first n
    → Each P (flat t [])
    → (p : ℕ) → p < rows t → P (line_of_row (numbered_row words first p))
tree_each P words first n t e each p h =
    each_said P words first (flat t []) 0 p p (omega arith) (omega (arith, lines_counted t)) (tree_stands words first n t e) each
