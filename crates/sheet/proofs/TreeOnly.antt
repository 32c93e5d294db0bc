-- A tree is settled by its lines: no two trees have the same.
use Prim.Native.Nat.{ℕ}
use mathlib.Core.Path.{◌≡◌, refl, sym, subst}
use mathlib.Core.List.{List, [], ◌∷◌}
use native.Mathlib.Omega.{arith}
use Rattle.sheet.specs.Tree.{Tree, done, one, fork, again, Line, basic, if_line, else_line, end_if, repeat, end_repeat, flat}

module _ {B F : Type 0} where
  -- lines that begin no tree: the end, or a line that splits or closes a block
  abbrev pub Closing : List (Line B F) → Type 0
  Closing [] = Unit {0}
  Closing (basic b ∷ ls) = ⊥
  Closing (if_line f ∷ ls) = ⊥
  Closing (else_line ∷ ls) = Unit {0}
  Closing (end_if ∷ ls) = Unit {0}
  Closing (repeat m ∷ ls) = ⊥
  Closing (end_repeat ∷ ls) = Unit {0}

  pub record Same (t t' : Tree B F) (ls ls' : List (Line B F)) : Type 0 where
    pub tree : t ≡ t'
    pub rest : ls ≡ ls'

  -- a tree's first line, and what stands before a closing line
  not_closing : (l : Line B F) (ls ls' : List (Line B F)) → Closing ls' → ls' ≡ l ∷ ls → Closing (l ∷ ls)
  not_closing l ls ls' c e = subst Closing e c

  flat_same : (t t' : Tree B F) (ls ls' : List (Line B F)) → Closing ls → Closing ls' → flat t ls ≡ flat t' ls' → Same t t' ls ls'
  unfolding flat
  flat_same done done ls ls' c c' e = record { tree = refl; rest = e }
  flat_same done (one b k) ls ls' c c' e = absurd (not_closing _ _ ls c e)
  flat_same done (fork f a b k) ls ls' c c' e = absurd (not_closing _ _ ls c e)
  flat_same done (again m a k) ls ls' c c' e = absurd (not_closing _ _ ls c e)
  flat_same (one b k) done ls ls' c c' e = absurd (not_closing _ _ ls' c' (sym e))
  flat_same (one b k) (one b' k') ls ls' c c' e =
      let heads : flat k ls ≡ flat k' ls' = cc in
      let rest = flat_same k k' ls ls' c c' heads in
      record { tree = cc rest.tree; rest = rest.rest }
  flat_same (one b k) (fork f a b' k') ls ls' c c' e = let z : ◌≡◌ {A = ℕ} 0 1 = cc in absurd (omega arith)
  flat_same (one b k) (again m a k') ls ls' c c' e = let z : ◌≡◌ {A = ℕ} 0 1 = cc in absurd (omega arith)
  flat_same (fork f a b k) done ls ls' c c' e = absurd (not_closing _ _ ls' c' (sym e))
  flat_same (fork f a b k) (one b' k') ls ls' c c' e = let z : ◌≡◌ {A = ℕ} 0 1 = cc in absurd (omega arith)
  flat_same (fork f a b k) (fork f' a' b' k') ls ls' c c' e =
      let first = flat_same a a' (else_line ∷ flat b (end_if ∷ flat k ls)) (else_line ∷ flat b' (end_if ∷ flat k' ls')) tt tt cc in
      let second = flat_same b b' (end_if ∷ flat k ls) (end_if ∷ flat k' ls') tt tt (cc first.rest) in
      let rest = flat_same k k' ls ls' c c' (cc second.rest) in
      record { tree = cc (first.tree, second.tree, rest.tree); rest = rest.rest }
  flat_same (fork f a b k) (again m a' k') ls ls' c c' e = let z : ◌≡◌ {A = ℕ} 0 1 = cc in absurd (omega arith)
  flat_same (again m a k) done ls ls' c c' e = absurd (not_closing _ _ ls' c' (sym e))
  flat_same (again m a k) (one b k') ls ls' c c' e = let z : ◌≡◌ {A = ℕ} 0 1 = cc in absurd (omega arith)
  flat_same (again m a k) (fork f a' b k') ls ls' c c' e = let z : ◌≡◌ {A = ℕ} 0 1 = cc in absurd (omega arith)
  flat_same (again m a k) (again m' a' k') ls ls' c c' e =
      let body = flat_same a a' (end_repeat ∷ flat k ls) (end_repeat ∷ flat k' ls') tt tt cc in
      let rest = flat_same k k' ls ls' c c' (cc body.rest) in
      record { tree = cc (body.tree, rest.tree); rest = rest.rest }

  pub only_tree : (t t' : Tree B F) → flat t [] ≡ flat t' [] → t ≡ t'
  only_tree t t' e = (flat_same t t' [] [] tt tt e).tree
