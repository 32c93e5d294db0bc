-- What is proved of the writer.
pub mod WritingLaws
pub mod PartsApart
pub mod TableTree
pub mod JumpLaws
pub mod PassOver
pub mod BackwardOver
pub mod ForwardTree
pub mod BackwardTree
pub mod WalkTree
pub mod WholeTable
pub mod TableWritten
pub mod PlanWritten
pub mod CallLaws
pub mod CallsPinned
