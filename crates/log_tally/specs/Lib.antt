pub mod LogLines
pub mod Totals
pub mod OpenLines
