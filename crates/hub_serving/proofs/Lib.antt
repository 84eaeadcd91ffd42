pub mod PortRuns
