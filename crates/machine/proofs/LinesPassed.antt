-- Passing over a tree's lines: what stands behind them, and where a search for an "else", an "end if" or an "end repeat" ends.
use Prim.Native.Nat.{ℕ, suc, ◌+◌}
use mathlib.Core.Path.{◌≡◌, sym, ap, refl, ◌∙◌}
use mathlib.Core.List.{List, ◌∷◌}
use mathlib.Core.Option.{Option, none, some}
use lib.ListN.{drop}
use lib.Seq.{drop-drop}
use native.Mathlib.Nat.{zero-add}
use native.Mathlib.Omega.{arith}
use Rattle.sheet.specs.Tree.{Tree, done, one, fork, again, Line, basic, if_line, else_line, end_if, repeat, end_repeat, flat, rows}
use Rattle.machine.specs.Machine.{Sought, its_else, its_end, one_more, seek, seek_close}

-- what a search finds so many lines further on
further : ℕ → Option ℕ → Option ℕ
further n none = none
further n (some m) = some (n + m)

further_none : (o : Option ℕ) → further 0 o ≡ o
unfolding further
further_none none = refl
further_none (some m) = rw zero-add

further_row : (i : ℕ) (o : Option ℕ) → one_more (further i o) ≡ further (1 + i) o
unfolding further
further_row i none = refl
further_row i (some m) = ap {B = Option ℕ} some (omega arith)

further_repeat : (i j : ℕ) (o : Option ℕ) → one_more (further i (one_more (further j o))) ≡ further (2 + (i + j)) o
unfolding further
further_repeat i j none = refl
further_repeat i j (some m) = ap {B = Option ℕ} some (omega arith)

further_fork : (i j k : ℕ) (o : Option ℕ) → one_more (further i (one_more (further j (one_more (further k o))))) ≡ further (3 + (i + j + k)) o
unfolding further
further_fork i j k none = refl
further_fork i j k (some m) = ap {B = Option ℕ} some (omega arith)

module _ {B F : Type 0} where
  past_flat : (t : Tree B F) (rest : List (Line B F)) (n : ℕ) → drop (rows t + n) (flat t rest) ≡ drop n rest
  unfolding rows flat
  past_flat done rest n = rw zero-add
  past_flat (one b k) rest n =
      let e : 1 + rows k + n ≡ suc (rows k + n) = omega arith in
      rw e (past_flat k rest n)
  past_flat (fork f a b k) rest n =
      let e : 3 + (rows a + rows b + rows k) + n ≡ suc (rows a + suc (rows b + suc (rows k + n))) = omega arith in
      rw e (past_flat a _ _ ∙ past_flat b _ _ ∙ past_flat k rest n)
  past_flat (again m a k) rest n =
      let e : 2 + (rows a + rows k) + n ≡ suc (rows a + suc (rows k + n)) = omega arith in
      rw e (past_flat a _ _ ∙ past_flat k rest n)

  -- where a line or a tree stands at row p, the rest stands behind it
  pub past_line : (lines : List (Line B F)) (p : ℕ) (l : Line B F) (rest : List (Line B F)) → drop p lines ≡ l ∷ rest
      → drop (suc p) lines ≡ rest
  past_line lines p l rest e =
      let h : suc p ≡ p + 1 = omega arith in
      rw h (sym (drop-drop 1 p lines) ∙ ap (drop 1) e)

  pub past_tree : (lines : List (Line B F)) (p : ℕ) (t : Tree B F) (rest : List (Line B F)) → drop p lines ≡ flat t rest
      → drop (p + rows t) lines ≡ rest
  past_tree lines p t rest e =
      let h : rows t ≡ rows t + 0 = omega arith in
      sym (drop-drop (rows t) p lines) ∙ ap (drop (rows t)) e ∙ ap (λ n. drop n (flat t rest)) h ∙ past_flat t rest 0

  -- A search that no line of another block stops: at each such line it goes on to the next, and at the block's end it is as it was before the
  -- block. What it keeps of the blocks that it is in may differ inside "if" blocks and inside loops.
  record Searches (search : ℕ → List (Line B F) → Option ℕ) (in_fork in_loop : ℕ → ℕ) : Type 0 where
    over_basic : (n : ℕ) (b : B) (rest : List (Line B F)) → search n (basic b ∷ rest) ≡ one_more (search n rest)
    over_if : (n : ℕ) (f : F) (rest : List (Line B F)) → search n (if_line f ∷ rest) ≡ one_more (search (in_fork n) rest)
    over_else : (n : ℕ) (rest : List (Line B F)) → search (in_fork n) (else_line ∷ rest) ≡ one_more (search (in_fork n) rest)
    over_end_if : (n : ℕ) (rest : List (Line B F)) → search (in_fork n) (end_if ∷ rest) ≡ one_more (search n rest)
    over_repeat : (n : ℕ) (m : _) (rest : List (Line B F)) → search n (repeat m ∷ rest) ≡ one_more (search (in_loop n) rest)
    over_end_repeat : (n : ℕ) (rest : List (Line B F)) → search (in_loop n) (end_repeat ∷ rest) ≡ one_more (search n rest)

  -- it passes over a tree, however deep it is
  search_flat : {search : ℕ → List (Line B F) → Option ℕ} {in_fork in_loop : ℕ → ℕ} → Searches search in_fork in_loop
      → (n : ℕ) (t : Tree B F) (rest : List (Line B F)) → search n (flat t rest) ≡ further (rows t) (search n rest)
  unfolding flat rows
  search_flat {search} over n done rest = sym (further_none (search n rest))
  search_flat {search} over n (one b k) rest =
      over.over_basic n b _ ∙ ap one_more (search_flat over n k rest) ∙ further_row (rows k) (search n rest)
  search_flat {search} {in_fork} over n (fork f a b k) rest =
      over.over_if n f _
      ∙ ap one_more (search_flat over (in_fork n) a _
      ∙ ap (further (rows a)) (over.over_else n _
      ∙ ap one_more (search_flat over (in_fork n) b _
      ∙ ap (further (rows b)) (over.over_end_if n _ ∙ ap one_more (search_flat over n k rest)))))
      ∙ further_fork (rows a) (rows b) (rows k) (search n rest)
  search_flat {search} {in_loop = in_loop} over n (again m a k) rest =
      over.over_repeat n m _
      ∙ ap one_more (search_flat over (in_loop n) a _ ∙ ap (further (rows a)) (over.over_end_repeat n _ ∙ ap one_more (search_flat over n k rest)))
      ∙ further_repeat (rows a) (rows k) (search n rest)

  seek_searches : (sought : Sought) → Searches (seek sought) suc (λ n. n)
  unfolding seek
  seek_searches sought =
      record {
        over_basic = λ n b rest. refl;
        over_if = λ n f rest. refl;
        over_else = λ n rest. refl;
        over_end_if = λ n rest. refl;
        over_repeat = λ n m rest. refl;
        over_end_repeat = λ n rest. refl;
      }

  close_searches : Searches seek_close (λ n. n) suc
  unfolding seek_close
  close_searches =
      record {
        over_basic = λ n b rest. refl;
        over_if = λ n f rest. refl;
        over_else = λ n rest. refl;
        over_end_if = λ n rest. refl;
        over_repeat = λ n m rest. refl;
        over_end_repeat = λ n rest. refl;
      }

  pub seek_else : (t : Tree B F) (rest : List (Line B F)) → seek its_else 0 (flat t (else_line ∷ rest)) ≡ some (rows t + 1)
  unfolding seek further
  seek_else t rest = search_flat (seek_searches its_else) 0 t (else_line ∷ rest)

  pub seek_end : (t : Tree B F) (rest : List (Line B F)) → seek its_end 0 (flat t (end_if ∷ rest)) ≡ some (rows t + 1)
  unfolding seek further
  seek_end t rest = search_flat (seek_searches its_end) 0 t (end_if ∷ rest)

  pub seek_close_lem : (t : Tree B F) (rest : List (Line B F)) → seek_close 0 (flat t (end_repeat ∷ rest)) ≡ some (rows t + 1)
  unfolding seek_close further
  seek_close_lem t rest = search_flat close_searches 0 t (end_repeat ∷ rest)
