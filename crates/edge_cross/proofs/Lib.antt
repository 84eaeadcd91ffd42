pub mod Edges
pub mod Pixels
pub mod PassedEdges
