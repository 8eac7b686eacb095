pub mod Pictures
pub mod Tracing
pub mod Written
