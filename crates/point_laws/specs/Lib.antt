pub mod Sight
