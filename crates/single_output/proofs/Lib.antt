pub mod DueActs
pub mod WholeRuns
pub mod OneOutput
