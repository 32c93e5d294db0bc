-- The demands, and what they speak of besides the layers' own definitions: 01's table of refusals as rules, executing a sheet, the ideal
-- sweep and its log, equation (2) and its mirror, other choices of saved rows, the balance of both directions, and 01's worked sheets.
pub mod ExactlyWhen
pub mod IdealSweep
pub mod EquationTwo
pub mod ForwardEquation
pub mod WholeRun
pub mod Demands
pub mod Tangents
pub mod Balance
pub mod ThreeDemands
pub mod ReaderExactly
pub mod WorkedSheets
pub mod Inner
