pub mod Summaries
pub mod CountedRuns
