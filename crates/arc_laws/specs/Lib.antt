pub mod Modelled
