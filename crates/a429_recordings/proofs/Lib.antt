pub mod LogLines
pub mod KeptPieces
pub mod LogTimes
pub mod JudgedRows
mod DefaultTolerance
pub mod JudgedFiles
pub mod Timelines
pub mod SimulatedSteps
pub mod Played
pub mod ShortNames
pub mod SentCells
pub mod TrackOrder
mod CloseRuns
pub mod SimulationEnds
pub mod SimulationPrinted
pub mod SendFigures
pub mod FigureSteps
pub mod SummedUp
pub mod NotedBoxes
pub mod SlotTimes
pub mod StepOrder
pub mod LastAccepted
pub mod LateWords
pub mod LateRows
pub mod Silence
pub mod EarlySlots
pub mod SilentSlots
