pub mod ReportedMarks
pub mod ClosedSerials
