-- What the roles come to, by the first of them that is above the greatest.
use Rattle.std.specs.Prelude.{ℕ, suc, ◌+◌, ◌≤◌, ◌≡◌, Bool, List, [], ◌∷◌, ltb, position}
use Rattle.std.specs.List.{position_from}
use Rattle.std.specs.Prelude.{Option, Some, None}
use Rattle.std.proofs.Common.{refl, sym, ap, ◌∙◌, arith}
use Rattle.std.proofs.lemmas.Iterator.Adapters.{position_from-zero}
use borrow.Author.Tests.{le-leb, lt-leb, lt-ltb, le-ltb}
use native.Mathlib.Decide.{dec_le}
use Rattle.sheet.specs.Bounds.{limit}
use Rattle.sheet.specs.Judging.{Answer, refused, given}
use Rattle.sheet.specs.Refusals.{role_above}
use Rattle.sheet.specs.Reading.{roles_fit}

abbrev pub above : ℕ → Bool
above role = ltb limit.greatest_role role

-- where the first role is word 1
abbrev pub roles_by : Option ℕ → Answer (Unit {0})
roles_by (Some before) = refused (role_above (1 + before))
roles_by None = given tt

roles_from : (roles : List ℕ) (i place : ℕ) → place ≡ 1 + i → roles_fit roles place ≡ roles_by (position_from above i roles)
unfolding roles_fit
roles_from [] i place is = refl
roles_from (role ∷ roles) i place is = by (dec_le role limit.greatest_role) (roles_from roles (i + 1) (suc place) (omega arith))
  where
    by : Dec (role ≤ limit.greatest_role) → roles_fit roles (suc place) ≡ roles_by (position_from above (i + 1) roles)
        → roles_fit (role ∷ roles) place ≡ roles_by (position_from above i (role ∷ roles))
    by (yes h) later = rw (le-leb role 3 h, le-ltb 3 role h) later
    by (no h) later = rw (lt-leb role 3 (omega arith), lt-ltb 3 role (omega arith), is) refl

pub roles_judged : (roles : List ℕ) → roles_fit roles 1 ≡ roles_by (position above roles)
roles_judged roles = roles_from roles 0 1 refl ∙ ap roles_by (sym (position_from-zero above roles))
