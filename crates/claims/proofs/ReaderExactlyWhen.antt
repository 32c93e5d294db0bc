-- Demand 1 for the reader's call: whatever its contract permits, each refusal is answered exactly when 01's rule for it holds.
use mathlib.Core.Path.{◌≡◌, refl, sym, ap, subst}
use Rattle.sheet.specs.declared.No.{No}
use Rattle.std.specs.Prelude.{Ok, Result}
use mathlib.Core.List.{List}
use mathlib.Core.Logic.{◌⊎◌, inl, inr}
use Prim.Native.Nat.{ℕ}
use Rattle.sheet.specs.Judging.{given}
use Rattle.sheet.specs.Refusals.{Refusal}
use Rattle.sheet.specs.Sheets.{Sheet}
use Rattle.sheet.specs.Answers.{said, shape_of, shape_read}
use Rattle.sheet.specs.declared.Shape.{Shape}
use Rattle.sheet.proofs.Settled.{Settled, given_exactly, named_exactly, done_exactly, numbers_within}
use Rattle.sheet.proofs.ReaderLaws.{same_said}
use Rattle.claims.specs.ExactlyWhen.{ReadingRefuses, Read}
use Rattle.claims.specs.ReaderExactly.{ShapeOfRead, ReaderExactly}
use Rattle.claims.proofs.ReadingExactlyWhen.{reading_settled, reading_numbers}

module _ (words : List ℕ) where
  shape_settled : Settled (shape_read words) (ReadingRefuses words) (ShapeOfRead words)
  unfolding shape_read
  shape_settled =
      record {
        by_rule = λ r rule. rw ((reading_settled words).by_rule r rule);
        by_result = λ shape of. rw ((reading_settled words).by_result of.sheet of.is) (ap given of.shaped);
        either = either (reading_settled words).either;
      }
    where
      either : ((sheet : Sheet) × Read words sheet) ⊎ ((r : Refusal) × ReadingRefuses words r)
          → ((shape : Shape) × ShapeOfRead words shape) ⊎ ((r : Refusal) × ReadingRefuses words r)
      either (inl (sheet, is)) = inl (shape_of sheet, record { sheet = sheet; is = is; shaped = refl })
      either (inr rule) = inr rule

  -- the contract of `read_sheet` is `said result ≡ shape_read words`
  pub reader_exactly : (r : Result Shape No) → said r ≡ shape_read words → ReaderExactly words r
  reader_exactly r contract =
      let settled : Settled (said r) (ReadingRefuses words) (ShapeOfRead words) =
      subst (λ answer. Settled answer (ReadingRefuses words) (ShapeOfRead words)) (sym contract) shape_settled in
      record {
        refuses = named_exactly settled;
        accepts = λ shape. (
          λ is. (given_exactly settled shape).0 (ap said is),
          λ of. same_said r (Ok shape) ((given_exactly settled shape).1 of),
        );
        done = done_exactly settled;
        numbers = numbers_within settled 7 (λ why rule. reading_numbers rule);
      }
