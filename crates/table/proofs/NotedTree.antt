-- What `sets::mark` leaves is what the writer reads: every assignment's marks and every block row's partners.
use Prim.Native.Nat.{ℕ, suc, ◌+◌, ◌<◌}
use native.Mathlib.Omega.{arith}
use mathlib.Core.Path.{◌≡◌, refl, sym, ap, subst, ◌∙◌}
use mathlib.Core.Bool.{Bool}
use mathlib.Core.List.{List, [], ◌∷◌, map}
use lib.ListN.{length, get_or, drop, get_or-append}
use Rattle.sheet.specs.Tree.{Tree, done, one, fork, again, rows, Line, flat}
use Rattle.sheet.specs.Rows.{Assignment, Test}
use Rattle.sheet.specs.Judging.{given}
use Rattle.sheet.specs.Sheets.{Sheet}
use Rattle.sheet.specs.Reading.{read}
use Rattle.sets.specs.Transfers.{Activity}
use Rattle.sets.specs.Marks.{Sets, Marked, MarkedTest, numbered, mark_by, marked_by}
use Rattle.sets.specs.Rounds.{sets_of, marked}
use Rattle.sets.specs.MarkBytes.{byte_by, byte_of, mark_bytes}
use Rattle.sets.specs.Partners.{CameFrom, GoesTo}
use Rattle.sets.specs.Calls.{Lent, SheetMarks, MarksSaid}
use Rattle.sets.proofs.MarkByteLaws.{read_back}
use Rattle.table.specs.Inner.MarkedRows.{known_by, saved_by, MarkSays, Noted}
use Rattle.table.specs.Inner.Plans.{SheetNoted}

-- ---- a byte read back

same_activity : (x y z x' y' z' : Bool) → x ≡ x' → y ≡ y' → z ≡ z'
    → ◌≡◌ {A = Activity} (record { varied_a = x; varied_b = y; active = z }) (record { varied_a = x'; varied_b = y'; active = z' })
same_activity x y z x' y' z' e f g = rw (e, f, g)

known_back : (known : Activity) (saved : Bool) → known_by (byte_by known saved) ≡ known
known_back known saved = let back = read_back known saved in same_activity _ _ _ _ _ _ back.varied_a back.varied_b back.active

-- ---- the marks hold a list's bytes from a row on

module _ (marks : List ℕ) where
  abbrev Holds : List ℕ → ℕ → Type 0
  Holds [] p = Unit {0}
  Holds (x ∷ xs) p = (get_or marks p 0 ≡ x) × Holds xs (suc p)

  holds_all : (xs : List ℕ) (p : ℕ) → ((i : ℕ) → i < length xs → get_or marks (p + i) 0 ≡ get_or xs i 0) → Holds xs p
  holds_all [] p same = tt
  holds_all (x ∷ xs) p same =
      let here : p + 0 ≡ p = omega arith in (
        rw here at (same 0 (omega arith)),
        holds_all xs (suc p) (λ i below. let next : p + suc i ≡ suc p + i = omega arith in rw next at (same (suc i) (omega arith))),
      )

-- ---- all rows

module _ (sets : Sets) (marks came goes : List ℕ) where
  mark_says : (p : ℕ) (b : Assignment) → let m = mark_by sets p b in get_or marks p 0 ≡ byte_by m.known m.saved → MarkSays (get_or marks p 0) b m
  unfolding mark_by
  mark_says p b at =
      let m = mark_by sets p b in
      record {
        assignment = refl;
        known = sym (ap known_by at ∙ known_back m.known m.saved);
        saved = sym (ap saved_by at ∙ (read_back m.known m.saved).saved);
      }

  abbrev HoldsLines : List (Line Marked MarkedTest) → ℕ → Type 0
  HoldsLines ls p = Holds marks (map byte_of ls) p

  -- the marks of a tree's rows and then those of what follows
  record NotedThen (t : Tree Assignment Test) (p : ℕ) (rest : List (Line Marked MarkedTest)) : Type 0 where
    noted : Noted marks came goes (mark_by sets) t p
    after : HoldsLines rest (p + rows t)

  noted_tree : (t : Tree Assignment Test) (p : ℕ) (rest : List (Line Marked MarkedTest)) → HoldsLines (flat (numbered (mark_by sets) t p) rest) p
      → CameFrom came t p → GoesTo goes t p → NotedThen t p rest
  unfolding numbered flat byte_of CameFrom GoesTo Noted rows
  noted_tree done p rest h c g = record { noted = tt; after = subst (HoldsLines rest) (omega arith) h }
  noted_tree (one b k) p rest h c g =
      let K = noted_tree k (suc p) rest h.1 c g in
      record { noted = (mark_says p b h.0, K.noted); after = subst (HoldsLines rest) (omega arith) K.after }
  noted_tree (fork f a b k) p rest h c g =
      let split = suc p + rows a in
      let end = suc split + rows b in
      let A = noted_tree a (suc p) _ h.1 c.0 g.1 in
      let B = noted_tree b (suc split) _ A.after.1 c.2 g.3 in
      let K = noted_tree k (suc end) rest B.after.1 c.4 g.4 in
      record {
        noted = (record { if_goes = g.0; else_goes = g.2; else_came = c.1; end_came = c.3 }, (A.noted, (B.noted, K.noted)));
        after = subst (HoldsLines rest) (omega arith) K.after;
      }
  noted_tree (again m a k) p rest h c g =
      let end = suc p + rows a in
      let A = noted_tree a (suc p) _ h.1 c.1 g.0 in
      let K = noted_tree k (suc end) rest A.after.1 c.2 g.2 in
      record {
        noted = (record { end_goes = g.1 }, (A.noted, K.noted));
        after = subst (HoldsLines rest) (omega arith) K.after;
      }

-- ---- what marking leaves

module _ (sheet : Sheet) (before after : Lent) (says : SheetMarks sheet before after) where
  bytes_held : Holds after.marks (mark_bytes sheet) 0
  bytes_held =
      holds_all after.marks (mark_bytes sheet) 0 (λ i below.
      let here : 0 + i ≡ i = omega arith in
      rw here (ap (λ bytes. get_or bytes i 0) says.marks ∙ get_or-append (mark_bytes sheet) (drop (rows sheet.body) before.marks) 0 i below))

  all_noted : SheetNoted sheet after.marks after.came after.goes
  unfolding mark_bytes marked marked_by
  all_noted =
      (noted_tree (sets_of sheet) after.marks after.came after.goes sheet.body 0 [] bytes_held
      says.came_from says.goes_to).noted

pub sheet_noted : (words : List ℕ) (before after : Lent) → MarksSaid (read words) before after
    → (sheet : Sheet) → read words ≡ given sheet → SheetNoted sheet after.marks after.came after.goes
sheet_noted words before after says sheet e = all_noted sheet before after (subst (λ answer. MarksSaid answer before after) e says)
