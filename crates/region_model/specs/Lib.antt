pub mod Region
pub mod Answers
pub mod LineCommands
pub mod PolygonCommands
pub mod Printed
pub mod UnionCommand
pub mod PlaceCommands
