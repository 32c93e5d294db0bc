-- Laws of the calls' code, over the arithmetic.
pub mod FillingLaws
pub mod AdmittedLaws
-- what rows read and put in a store
pub mod Stores
pub mod Originals
pub mod RowsReady
-- the machine on a table
pub mod JumpsRight
pub mod RowsInTheLarge
pub mod MachineFollows
pub mod RunsCopy
pub mod RunEnds
pub mod EnoughSteps
pub mod OpenRepeats
pub mod TableHeld
pub mod KnownNames
pub mod TableNames
-- the calls: any table's, then the adjoint's
pub mod SectionLaws
pub mod CallsJudged
pub mod CallLaws
pub mod AdjointCalls
pub mod CallsPinned
