pub mod WordsLines
pub mod LiveRuns
pub mod LiveRefusals
pub mod ReportParts
pub mod Resubmits
pub mod NoneRefused
pub mod WholeFrames
