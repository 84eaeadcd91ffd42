pub mod Tables
pub mod HeldLaw
