-- The theorems of the demands, and the laws that they rest on.

-- 01's starred sheets
pub mod WorkedSheetsHold
pub mod TableBoundReached
-- demand 1: each refusal exactly when
pub mod FirstFailing
pub mod SectionsJudged
pub mod LinesJudged
pub mod RowsJudged
pub mod QuotientsJudged
pub mod ReadingExactlyWhen
pub mod StartExactlyWhen
pub mod ExactlyWhenHolds
pub mod ReaderExactlyWhen
-- demand 3: the replay
pub mod Runs
pub mod RunsKeepSizes
pub mod MachineLogs
pub mod DerivedInTheLarge
pub mod Accounts
pub mod DerivativeRows
pub mod DerivativesAlike
pub mod ExecutionReady
pub mod Forward
pub mod ForwardLog
pub mod Undoing
pub mod BackwardRest
pub mod Replay
pub mod MoreRoom
pub mod IdealRooms
pub mod RunsEnd
pub mod Heights
pub mod RowSeventeen
pub mod RunInTheLarge
pub mod WholeRunMatches
pub mod RunsAnswer
pub mod AtTurningRound
pub mod SavesOnlyRecorded
pub mod DemandThreeHolds
pub mod DemandOneHolds
-- demand 2: equation (2)
pub mod EquationTwoSolved
pub mod LeanGain
pub mod ResidueDerivatives
pub mod ResiduesGo
pub mod LeanStep
pub mod LeanSweep
pub mod EquationTwoHolds
pub mod AuditSolves
pub mod DemandTwoHolds
-- 02's tangents and the plain engine
pub mod TangentExecutes
pub mod TangentsHold
pub mod PlainHolds
-- 02's balance
pub mod FullRates
pub mod Transposed
pub mod ForwardEquationSolved
pub mod LeanRates
pub mod LeanRatesAlong
pub mod TangentsSolve
pub mod BothRun
pub mod BalanceHolds
-- the theorems on 01's sheets C, D and E
pub mod OnWorkedSheets
