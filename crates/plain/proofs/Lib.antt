-- What is proved of the plain engine.

-- it and the tangent table's run agree
pub mod FeasibleBodies
pub mod CarriedStores
pub mod EnginesAgree
pub mod WholeRunsAgree
pub mod EnginesAgreeCalled
-- its code
pub mod CellLaws
pub mod CarriedOver
pub mod LayingLaws
pub mod PlacedTree
pub mod EngineLaws
pub mod ReadyLaws
pub mod EngineRun
pub mod CallLaws
pub mod CallsPinned
