-- The rows of a table's tree, by what stands first in it.
use mathlib.Core.Path.{◌≡◌, refl, ap, ◌∙◌}
use mathlib.Core.List.{List, [], ◌∷◌, ◌++◌, append_assoc, map}
use Rattle.sheet.specs.Tree.{Loop, Tree, done, one, fork, again, Line, else_line, end_if, repeat, end_repeat, flat}
use Rattle.sheet.specs.Rows.{Row, row_of}
use Rattle.table.specs.TableRows.{Table, TableRow, TableLine, TableTest, lines_of, table_row_of, row_of_action, row_of_table_test}
use Rattle.table.specs.Inner.MarkedRows.{row_with, rows_in}

module _ {B F : Type 0} where
  lines_append : (t : Tree B F) (xs ys : List (Line B F)) → flat t (xs ++ ys) ≡ flat t xs ++ ys
  unfolding flat
  lines_append done xs ys = refl
  lines_append (one b k) xs ys = rw (lines_append k xs ys)
  lines_append (fork f a b k) xs ys =
      rw (lines_append k xs ys, lines_append b (end_if ∷ flat k xs) ys, lines_append a (else_line ∷ flat b (end_if ∷ flat k xs)) ys)
  lines_append (again m a k) xs ys = rw (lines_append k xs ys, lines_append a (end_repeat ∷ flat k xs) ys)

map_append : (xs ys : List TableLine) → map table_row_of (xs ++ ys) ≡ map table_row_of xs ++ map table_row_of ys
map_append [] ys = refl
map_append (x ∷ xs) ys = rw (map_append xs ys)

rows_before : (t : Table) (rest : List TableLine) → map table_row_of (flat t rest) ≡ rows_in t ++ map table_row_of rest
unfolding rows_in lines_of
rows_before t rest = ap (map table_row_of) (lines_append t [] rest) ∙ map_append (flat t []) rest

pub rows_of_one : (r : TableRow) (k : Table) → rows_in (one r k) ≡ row_of_action r.action ∷ rows_in k
unfolding rows_in lines_of table_row_of flat row_of
rows_of_one r k = refl

pub rows_of_fork : (f : TableTest) (a b k : Table)
    → rows_in (fork f a b k) ≡ row_of_table_test f ∷ (rows_in a ++ (row_with 8 0 0 0 ∷ (rows_in b ++ (row_with 9 0 0 0 ∷ rows_in k))))
unfolding rows_in lines_of table_row_of flat row_of
rows_of_fork f a b k =
    ap (λ rs. row_of_table_test f ∷ rs)
    (rows_before a (else_line ∷ flat b (end_if ∷ flat k [])) ∙ ap (λ rs. rows_in a ++ (row_with 8 0 0 0 ∷ rs)) (rows_before b (end_if ∷ flat k [])))

pub rows_of_again : (l : Loop TableTest) (a k : Table) → rows_in (again l a k) ≡ table_row_of (repeat l) ∷ (rows_in a ++ (row_with 11 0 0 0 ∷ rows_in k))
unfolding rows_in lines_of table_row_of flat row_of
rows_of_again l a k = ap (λ rs. table_row_of (repeat l) ∷ rs) (rows_before a (end_repeat ∷ flat k []))

-- the same before other rows
pub fork_before : (f : TableTest) (a b k : Table) (after : List Row)
    → rows_in (fork f a b k) ++ after ≡ row_of_table_test f ∷ (rows_in a ++ (row_with 8 0 0 0 ∷ (rows_in b ++ (row_with 9 0 0 0 ∷ (rows_in k ++ after)))))
fork_before f a b k after = rw (rows_of_fork f a b k) (simp append_assoc)

pub again_before : (l : Loop TableTest) (a k : Table) (after : List Row)
    → rows_in (again l a k) ++ after ≡ table_row_of (repeat l) ∷ (rows_in a ++ (row_with 11 0 0 0 ∷ (rows_in k ++ after)))
again_before l a k after = rw (rows_of_again l a k) (simp append_assoc)
