-- `writer::jumps::note` meets its contract: each arm is one case of what the row is to the blocks.
use Rattle.writer.proofs.JumpLaws.{branch_opens, branch_splits, branch_closes, branch_passes}
use Rattle.writer.proofs.jumps.note.Goals as goal

pub returns-in-Opens : goal.returns-in-Opens
returns-in-Opens c =
    branch_opens _ _ _ _ c.rows_before-behind.ensures c.in-Opens.is c.put.ensures

pub returns-in-Splits : goal.returns-in-Splits
returns-in-Splits c =
    branch_splits _ _ _ _ c.rows_before-behind.ensures c.requires c.end_branch-outer.ensures.0 c.in-Splits.is
    c.end_branch-outer.ensures.1 c.put-in-Splits.ensures

pub returns-in-Closes : goal.returns-in-Closes
returns-in-Closes c =
    branch_closes _ _ _ _ c.rows_before-behind.ensures c.requires c.end_branch.ensures.0 c.in-Closes.is
    c.end_branch.ensures.1

pub returns-in-Passes : goal.returns-in-Passes
returns-in-Passes c = branch_passes c.in-Passes.is _ _
