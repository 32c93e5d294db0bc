-- `sheet::rows::Named::rules` meets its contract: each rule is made from its form in the table.
use Rattle.std.proofs.Common.{◌≡◌, ℕ, zero, suc, ◌+◌, ◌≤◌, ◌<◌, List, ap, subst, ◌∙◌, arith, get_or, rules}
use Rattle.std.specs.Array.{MapsFrom}
use Rattle.std.specs.Fn.{Mut, Called}
use native.Mathlib.Decide.{dec_le}
use Rattle.sheet.specs.Inner.Steps.{rule_of, no_rule}
use Rattle.sheet.proofs.PartsRead.{form_there}
use Rattle.sheet.specs.Inner.Kinds.{no_form}
use Rattle.sheet.proofs.rows.Named.rules.Goals as goal

module _ {F A B : Type 0} {g : Mut F (A × Unit {0}) B} (h : A → B) (xs : List A) (ys : List B) (d : A) (e : B) where
  mapped : (f : F) → ((x : A) (y : B) (q : F) → Called g f (x, tt) y q → (y ≡ h x) × (q ≡ f))
      → (i n j : ℕ) → MapsFrom g f xs ys i n → i ≤ j → j < i + n → get_or ys j e ≡ h (get_or xs j d)
  mapped f pure i zero j made from below = absurd (omega arith)
  mapped f pure i (suc n) j (q, x, y, at_x, at_y, call, rest) from below =
      by (dec_le j i) (λ l. mapped f pure (i + 1) n j (subst (λ p. MapsFrom g p xs ys (i + 1) n) (pure x y q call).1 rest) l (omega arith))
    where
      by : Dec (j ≤ i) → (i + 1 ≤ j → get_or ys j e ≡ h (get_or xs j d)) → get_or ys j e ≡ h (get_or xs j d)
      by (yes l) later =
          let same : j ≡ i = omega arith in
          rw (same, at_x.1 d, at_y.1 e) (pure x y q call).0
      by (no l) later = later (omega arith)

pub returns : goal.returns
returns c n l =
    mapped (rule_of c.args.self.variables c.args.self.constants) _ _ no_form no_rule _ (λ x y q call. search (rules, call)) 0 20 n c.map.ensures.items.each (omega arith) (omega arith)
    ∙ ap (rule_of _ _) (form_there _ _ _ c.forms.ensures l)
