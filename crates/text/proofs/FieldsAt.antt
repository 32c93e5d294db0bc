-- A line's fields: the first one ends at the first space, and is all of the line where there is none.
use Rattle.std.proofs.Common.{◌≡◌, ◌≢◌, ℕ, zero, suc, ◌<◌, Bool, cond, List, [], ◌∷◌, length, get_or, take, drop, ap, ◌∙◌, refl, arith}
use Rattle.std.proofs.lemmas.Bool.{eq-eqb, ne_eqb}
use Rattle.std.specs.List.{onto_first}
use Rattle.text.specs.Lines.{fields}

-- the fields of a byte and what follows it, by whether it is a space
abbrev behind : ℕ → List ℕ → Bool → List (List ℕ)
behind b bs space = cond space ([] ∷ fields bs) (onto_first b (fields bs))

pub fields_at : (xs : List ℕ) (i : ℕ) → i < length xs → get_or xs i 0 ≡ 32 → ((k : ℕ) → k < i → get_or xs k 0 ≢ 32) → fields xs ≡ take i xs ∷ fields (drop (suc i) xs)
fields_at [] i inside space before = absurd (omega arith)
fields_at (b ∷ bs) zero inside space before = ap (behind b bs) (eq-eqb b 32 space)
fields_at (b ∷ bs) (suc i) inside space before =
    ap (behind b bs) (ne_eqb b 32 (before 0 (omega arith)))
    ∙ ap (onto_first b) (fields_at bs i (omega arith) space (λ k below. before (suc k) (omega arith)))

pub fields_whole : (xs : List ℕ) → ((k : ℕ) → k < length xs → get_or xs k 0 ≢ 32) → fields xs ≡ xs ∷ []
fields_whole [] none = refl
fields_whole (b ∷ bs) none =
    ap (behind b bs) (ne_eqb b 32 (none 0 (omega arith)))
    ∙ ap (onto_first b) (fields_whole bs (λ k below. none (suc k) (omega arith)))
