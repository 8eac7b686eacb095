pub mod Mapped
pub mod Distinct
pub mod Inserted
