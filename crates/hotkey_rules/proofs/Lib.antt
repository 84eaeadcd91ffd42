pub mod FirstFound
pub mod FirstRules
pub mod KeyRows
