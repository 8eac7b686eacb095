pub mod Picked
pub mod Nodes
pub mod Runs
pub mod Ways
pub mod AlongArcs
pub mod Ordered
pub mod Modelled
