pub mod ClientSteps
pub mod Clients
pub mod ActByAct
