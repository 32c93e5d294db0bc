-- Rows written one after another, and the rows that a table says.
use Prim.Native.Nat.{ℕ, suc, ◌+◌}
use mathlib.Core.Path.{◌≡◌, refl, sym, ap, ◌∙◌, subst}
use mathlib.Core.List.{List, [], ◌∷◌, ◌++◌, append-nil, append_assoc}
use lib.ListN.{length, set, length-append, length-set}
use lib.Seq.{sets, length-sets}
use native.Mathlib.Omega.{arith}
use Rattle.sheet.specs.Rows.{Row}
use Rattle.table.specs.TableRows.{words_of}
use Rattle.table.proofs.TableLength.{words_counted}
use Rattle.writer.specs.declared.rows.TableOut.{TableOut}
use Rattle.writer.specs.Inner.RowsWritten.{RowRoom, HasRoom, Wrote, Put}

pub row_stores : (l : List ℕ) (p k d a b : ℕ) → set (set (set (set l p k) (p + 1) d) (p + 2) a) (p + 3) b ≡ sets l p (k ∷ d ∷ a ∷ b ∷ [])
row_stores l p k d a b =
    let one : p + 1 ≡ suc p = omega arith in
    let two : p + 2 ≡ suc (suc p) = omega arith in
    let three : p + 3 ≡ suc (suc (suc p)) = omega arith in
    rw (one, two, three)

sets_append : (l xs ys : List ℕ) (p : ℕ) → sets l p (xs ++ ys) ≡ sets (sets l p xs) (p + length xs) ys
sets_append l [] ys p = let e : p + 0 ≡ p = omega arith in rw e
sets_append l (x ∷ xs) ys p = let e : p + suc (length xs) ≡ suc p + length xs = omega arith in rw e (sets_append (set l p x) xs ys (suc p))

words_append : (rs rs' : List Row) → words_of (rs ++ rs') ≡ words_of rs ++ words_of rs'
unfolding words_of
words_append [] rs' = refl
words_append (r ∷ rs) rs' = rw (words_append rs rs')

pub wrote_none : (l : List ℕ) (p : ℕ) → Wrote l p [] l p
unfolding words_of
wrote_none l p = record { words = refl; place_after = omega arith }

pub wrote_length : {l l' : List ℕ} {p q : ℕ} {rs : List Row} → Wrote l p rs l' q → length l' ≡ length l
wrote_length {l} {l'} {p} {q} {rs} w = ap length w.words ∙ length-sets l p (words_of rs)

pub wrote_then : {l l' l'' : List ℕ} {p q r : ℕ} {rs rs' : List Row} → Wrote l p rs l' q → Wrote l' q rs' l'' r → Wrote l p (rs ++ rs') l'' r
wrote_then {l} {l'} {l''} {p} {q} {r} {rs} {rs'} w w' =
    let place : q ≡ p + length (words_of rs) = omega (arith, w.place_after, words_counted rs) in
    record {
      words =
          w'.words ∙ ap (λ m. sets m q (words_of rs')) w.words ∙ ap (λ n. sets (sets l p (words_of rs)) n (words_of rs')) place
          ∙ sym (sets_append l (words_of rs) (words_of rs') p) ∙ ap (sets l p) (sym (words_append rs rs'));
      place_after = omega (arith, w.place_after, w'.place_after, length-append rs rs');
    }

pub room_first : {l : List ℕ} {p : ℕ} (rs rs' : List Row) → RowRoom l p (rs ++ rs') → RowRoom l p rs
room_first rs rs' h = record { fits = omega (arith, length-append rs rs') }

pub room_after : {before after : TableOut} {rs : List Row} (rs' : List Row) → Put before rs after → HasRoom before (rs ++ rs') → HasRoom after rs'
room_after {rs = rs} rs' p h =
    let w = p.wrote in
    record { fits = omega (arith, wrote_length w, w.place_after, length-append rs rs') }

pub put_none : (out : TableOut) → Put out [] out
put_none out = record { wrote = wrote_none out.table.now out.place; same_table = refl; same_variables = refl }

pub put_then : {before between after : TableOut} {rs rs' : List Row} → Put before rs between → Put between rs' after → Put before (rs ++ rs') after
put_then p p' =
    record {
      wrote = wrote_then p.wrote p'.wrote;
      same_table = p'.same_table ∙ p.same_table;
      same_variables = p'.same_variables ∙ p.same_variables;
    }

-- rows that are said of as many variables
pub put_as : {before after : TableOut} (rows_for : (variables : ℕ) → List Row) {v v' : ℕ} → v ≡ v' → Put before (rows_for v) after → Put before (rows_for v') after
put_as {before} {after} rows_for same p = subst (λ v. Put before (rows_for v) after) same p

pub room_kept : {l : List ℕ} {p : ℕ} {rs : List Row} (at word : ℕ) → RowRoom l p rs → RowRoom (set l at word) p rs
room_kept {l} at word h = record { fits = omega (arith, h.fits, length-set l at word) }

-- ---- a loop that writes rows: what it has put and what is left make up the whole
pub record Underway (before : TableOut) (all rest : List Row) (after : TableOut) : Type 0 where
  pub passed : List Row
  pub put : Put before passed after
  pub whole : passed ++ rest ≡ all

pub underway_start : (out : TableOut) {all rest : List Row} → rest ≡ all → Underway out all rest out
underway_start out e = record { passed = []; put = put_none out; whole = e }

pub underway_room : {before after : TableOut} {all rest : List Row} → Underway before all rest after → HasRoom before all → HasRoom after rest
underway_room {rest = rest} u room = room_after rest u.put (rw u.whole room)

pub underway_next : {before between after : TableOut} {all rest : List Row} {rs : List Row} (rest' : List Row)
    → Underway before all rest between → rest ≡ rs ++ rest' → Put between rs after → Underway before all rest' after
underway_next {rs = rs} rest' u e p =
    record {
      passed = u.passed ++ rs;
      put = put_then u.put p;
      whole = append_assoc u.passed rs rest' ∙ ap (λ l. u.passed ++ l) (sym e) ∙ u.whole;
    }

pub underway_end : {before after : TableOut} {all rest : List Row} → Underway before all rest after → rest ≡ [] → Put before all after
underway_end {before} {after} {all} {rest} u e =
    subst (λ rs. Put before rs after) (sym (append-nil u.passed) ∙ ap (λ l. u.passed ++ l) (sym e) ∙ u.whole) u.put

pub underway_length : {before after : TableOut} {all rest : List Row} → Underway before all rest after → length after.table.now ≡ length before.table.now
underway_length u = wrote_length u.put.wrote
