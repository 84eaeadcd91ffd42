pub mod Edges
pub mod PassedEdges
pub mod InCorners
pub mod CornerTests
pub mod Gates
