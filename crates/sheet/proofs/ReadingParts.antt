-- What an accepted sheet was made of: each judgement of the reading, passed.
use Prim.Native.Nat.{ℕ, suc, ◌+◌, ◌*◌, ◌≤◌}
use mathlib.Core.Path.{◌≡◌, refl, subst}
use mathlib.Core.Bool.{Bool, true, false}
use mathlib.Core.List.{List, []}
use lib.ListN.{length, take, drop}
use lib.Dec.{leb}
use native.Mathlib.Omega.{arith}
use Rattle.sheet.specs.Bounds.{limit}
use Rattle.sheet.specs.Judging.{Answer, refused, given, ◌>>=◌, unless}
use Rattle.sheet.specs.Refusals.{Refusal, words_left, too_long}
use Rattle.sheet.specs.Tree.{longest_run}
use Rattle.sheet.specs.Sheets.{Sheet, rows_at}
use Rattle.sheet.specs.Reading.{count_at, roles_fit, body_of, read}
use Rattle.sheet.proofs.Judgements.{leb_tells}

-- ---- judgements in turn

pub not_given {ℓ κ} : {A : Type ℓ} {B : Type κ} {r : Refusal} {a : A} → refused r ≡ given a → B
not_given e = let z : ◌≡◌ {A = ℕ} 0 1 = cc in absurd (omega arith)

pub bound {ℓ κ} : {A : Type ℓ} {B : Type κ} (m : Answer A) (next : A → Answer B) (b : B) → (m >>= next) ≡ given b
    → (a : A) × (m ≡ given a) × (next a ≡ given b)
bound (refused r) next b e = not_given e
bound (given a) next b e = (a, refl, e)

pub passed : (test : Bool) (r : Refusal) {u : Unit {0}} → unless test r ≡ given u → test ≡ true
passed true r e = refl
passed false r e = not_given e

pub same_given : {A : Type 0} {a b : A} → given a ≡ given b → a ≡ b
same_given e = cc

-- ---- the whole sheet

pub record ReadParts (words : List ℕ) (sheet : Sheet) : Type 0 where
  pub v : ℕ
  pub k : ℕ
  pub n : ℕ
  pub variables : count_at words 0 limit.fewest_variables limit.variables 1 ≡ given v
  pub roles : sheet.roles ≡ take v (drop 1 words)
  pub constant_count : count_at words (1 + v) 0 limit.constants 1 ≡ given k
  pub constants : sheet.constants ≡ take k (drop (suc (1 + v)) words)
  pub row_count : count_at words (1 + v + 1 + k) 0 limit.rows limit.row_words ≡ given n
  pub rows : sheet.rows ≡ rows_at words (suc (1 + v + 1 + k)) n
  pub body : body_of v k sheet.rows (suc (1 + v + 1 + k)) [] [] ≡ given sheet.body
  pub ends : length words ≤ suc (1 + v + 1 + k) + n * limit.row_words
  pub short : longest_run sheet.body ≤ limit.longest_run

pub accepted : (words : List ℕ) (sheet : Sheet) → read words ≡ given sheet → ReadParts words sheet
unfolding read
accepted words sheet e =
    let c₁ = bound (count_at words 0 limit.fewest_variables limit.variables 1) _ sheet e in
    let v = c₁.0 in
    let c₂ = bound (roles_fit (take v (drop 1 words)) 1) _ sheet c₁.2 in
    let c₃ = bound (count_at words (1 + v) 0 limit.constants 1) _ sheet c₂.2 in
    let k = c₃.0 in
    let c₄ = bound (count_at words (1 + v + 1 + k) 0 limit.rows limit.row_words) _ sheet c₃.2 in
    let n = c₄.0 in
    let first = suc (1 + v + 1 + k) in
    let c₅ = bound (body_of v k (rows_at words first n) first [] []) _ sheet c₄.2 in
    let c₆ = bound (unless (leb (length words) (first + n * limit.row_words)) (words_left (first + n * limit.row_words))) _ sheet c₅.2 in
    let c₇ = bound (unless (leb (longest_run c₅.0) limit.longest_run) too_long) _ sheet c₆.2 in
    let is = same_given c₇.2 in
    subst (ReadParts words) is
    (record {
      v = v;
      k = k;
      n = n;
      variables = c₁.1;
      roles = refl;
      constant_count = c₃.1;
      constants = refl;
      row_count = c₄.1;
      rows = refl;
      body = c₅.1;
      ends = (leb_tells _ _).0 (passed (leb (length words) (first + n * limit.row_words)) (words_left (first + n * limit.row_words)) c₆.1);
      short = (leb_tells _ _).0 (passed (leb (longest_run c₅.0) limit.longest_run) too_long c₇.1);
    })
