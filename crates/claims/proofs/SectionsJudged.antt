-- A section's count and the roles: what their judgements come to, from 01's conditions.
use Prim.Native.Nat.{ℕ, suc, ◌+◌, ◌*◌, ◌≤◌, ◌<◌}
use mathlib.Core.Path.{◌≡◌, refl, ap, ◌∙◌}
use mathlib.Core.Bool.{Bool, false, ◌&&◌}
use mathlib.Core.List.{List, [], ◌∷◌}
use mathlib.Core.Logic.{◌⊎◌, inl, inr}
use lib.ListN.{length, get_or, take, drop, length-take, length-drop}
use lib.Seq.{get_or-take, get_or-drop}
use lib.Dec.{leb, ltb}
use native.Mathlib.Omega.{arith}
use Rattle.sheet.specs.Bounds.{limit}
use Rattle.sheet.specs.Judging.{Answer, refused, given, ◌>>=◌, unless}
use Rattle.sheet.specs.Refusals.{Refusal, words_end, count_beyond, role_above}
use Rattle.sheet.specs.Reading.{count_at, roles_fit}
use Rattle.sheet.proofs.Judgements.{Tells, leb_tells, both_tell, fails, unmet, judged, ◌and_then◌}
use Rattle.claims.specs.ExactlyWhen.{First, Section, variables, lowest, greatest, item_words, variable_count, count_place, count, first_item, CountThere, CountInRange, ItemsThere, InOrder, RoleAbove, Reached, ReadingRefuses, count_missing, items_missing, count_out_of_range, role_too_great}
use Rattle.claims.proofs.FirstFailing.{each_judged, Fails, all_pass, first_refused, all_or_first}

-- some rule of 01 refuses these words
abbrev pub SomeRule : List ℕ → Type 0
SomeRule words = (r : Refusal) × ReadingRefuses words r

-- ---- counts

module _ (words : List ℕ) (s : Section) where
  abbrev pub count_of : Answer ℕ
  count_of = count_at words (count_place words s) (lowest s) (greatest s) (item_words s)

  there_told : Tells (ltb (count_place words s) (length words)) (CountThere words s)
  there_told = leb_tells _ _

  range_told : Tells (leb (lowest s) (count words s) && leb (count words s) (greatest s)) (CountInRange words s)
  range_told = both_tell _ _ (leb_tells _ _) (leb_tells _ _)

  items_told : Tells (leb (first_item words s + count words s * item_words s) (length words)) (ItemsThere words s)
  items_told = leb_tells _ _

  pub count_missing_lem : ¬ CountThere words s → count_of ≡ refused (words_end (count_place words s))
  unfolding count_at
  count_missing_lem h = rw (unmet _ there_told h)

  pub count_beyond_lem : CountThere words s → ¬ CountInRange words s → count_of ≡ refused (count_beyond (count_place words s))
  unfolding count_at
  count_beyond_lem t h = rw (there_told.1 t, unmet _ range_told h)

  pub items_missing_lem : CountThere words s → CountInRange words s → ¬ ItemsThere words s → count_of ≡ refused (words_end (first_item words s))
  unfolding count_at
  items_missing_lem t r h = rw (there_told.1 t, range_told.1 r, unmet _ items_told h)

  pub count_given : InOrder words s → count_of ≡ given (count words s)
  unfolding count_at
  count_given h = rw (there_told.1 h.0, range_told.1 h.1, items_told.1 h.2)

  pub count_judged : Reached words s → InOrder words s ⊎ SomeRule words
  count_judged reached =
      judged _ there_told (λ none. (_, count_missing s reached none)) and_then λ there.
      judged _ range_told (λ out. (_, count_out_of_range s reached there out)) and_then λ range.
      judged _ items_told (λ none. (_, items_missing s reached there range none)) and_then λ items.
      inl (there, range, items)

-- ---- roles

abbrev role_fits : ℕ → Bool
role_fits role = leb role limit.greatest_role

roles_each : (roles : List ℕ) (place : ℕ) → roles_fit roles place ≡ each_judged role_fits role_above roles place
unfolding roles_fit each_judged
roles_each [] place = refl
roles_each (role ∷ roles) place = ap (λ rest. unless (role_fits role) (role_above place) >>= (λ _. rest)) (roles_each roles (suc place))

abbrev pub role_words : List ℕ → List ℕ
role_words words = take (variable_count words) (drop (first_item words variables) words)

module _ (words : List ℕ) (in_order : InOrder words variables) where
  roles_counted : length (role_words words) ≡ variable_count words
  roles_counted = simp (length-take, length-drop) (omega (arith, in_order.2))

  role_word : (i : ℕ) → i < variable_count words → get_or (role_words words) i 0 ≡ get_or words (1 + i) 0
  role_word i l = rw (get_or-take, get_or-drop)

  role_told : (i : ℕ) → Tells (role_fits (get_or words (1 + i) 0)) (get_or words (1 + i) 0 ≤ limit.greatest_role)
  role_told i = leb_tells _ _

  fails_above : (i : ℕ) → Fails role_fits 0 (role_words words) i → RoleAbove words i
  fails_above i f =
      let l : i < variable_count words = omega (arith, f.0, roles_counted) in
      let e : leb (get_or words (1 + i) 0) limit.greatest_role ≡ false = rw (role_word i l) at f.1 in
      let not_within = fails (role_fits (get_or words (1 + i) 0)) (role_told i) e in
      (l, omega arith)

  above_fails : (i : ℕ) → RoleAbove words i → Fails role_fits 0 (role_words words) i
  above_fails i h =
      let not_within : ¬ (get_or words (1 + i) 0 ≤ limit.greatest_role) = omega arith in
      (omega (arith, h.0, roles_counted), rw (role_word i h.0) (unmet (role_fits (get_or words (1 + i) 0)) (role_told i) not_within))

  pub roles_fit_lem : ((i : ℕ) → ¬ RoleAbove words i) → roles_fit (role_words words) 1 ≡ given tt
  roles_fit_lem none = roles_each (role_words words) 1 ∙ all_pass role_fits 0 role_above (role_words words) 1 (λ i f. none i (fails_above i f))

  pub role_refused : (i : ℕ) → First (RoleAbove words) i → roles_fit (role_words words) 1 ≡ refused (role_above (1 + i))
  role_refused i first =
      roles_each (role_words words) 1
      ∙ first_refused role_fits 0 role_above (role_words words) 1 i
      (record { here = above_fails i first.here; before = λ j l f. first.before j l (fails_above j f) })

  pub roles_judged : ((i : ℕ) → ¬ RoleAbove words i) ⊎ SomeRule words
  roles_judged = by (all_or_first role_fits 0 (role_words words))
    where
      by : ((i : ℕ) → ¬ Fails role_fits 0 (role_words words) i) ⊎ ((i : ℕ) × First (Fails role_fits 0 (role_words words)) i)
          → ((i : ℕ) → ¬ RoleAbove words i) ⊎ SomeRule words
      by (inl none) = inl (λ i h. none i (above_fails i h))
      by (inr (i, first)) =
          inr (
            _,
            role_too_great i in_order
                (record { here = fails_above i first.here; before = λ j l h. first.before j l (above_fails j h) }),
          )
