pub mod RunTraces
pub mod TraceEnds
