-- `sets::mark` meets its contract: the reader's answer, and by it the two sets and what is left in the lent lists.
use mathlib.Core.Path.{refl, sym, ap, ◌∙◌}
use Rattle.std.proofs.lemmas.Result.{err_from_is_err_and}
use Rattle.sheet.specs.Answers.{said}
use Rattle.sheet.proofs.ReaderLaws.{refused_read}
use Rattle.sets.proofs.CallLaws.{accepted_laid, refused_marking, accepted_marking, said_by}
use Rattle.sets.proofs.mark.Goals as goal

pub mark_accepted-ends-requires : goal.mark_accepted-ends-requires
mark_accepted-ends-requires c =
    accepted_laid _ _ _ c.read_sheet.ensures c.in_ok-shape.was

pub returns-in_err-shape : goal.returns-in_err-shape
returns-in_err-shape c =
    let read = refused_read _ _ _ c.read_sheet.ensures c.in_err-shape.was in
    let same = err_from_is_err_and c.from_residual.result c.from_residual.ensures.1 in
    rw (same.1, same.2) (refused_marking _ _ read, said_by _ _ _ _ read refl)

pub returns : goal.returns
returns c =
    let contract = c.read_sheet.ensures in
    let is = c.in_ok-shape.was in
    let laid = accepted_laid _ _ _ contract is in
    let left = c.mark_accepted-ends.ensures laid.sheet laid.accepted in
    (accepted_marking _ _ _ _ laid.accepted (sym (ap said is) ∙ contract) left.1, said_by _ _ _ _ laid.accepted left.0)
