pub mod Bytes
pub mod Numbers
pub mod Laws
pub mod Numeral
pub mod Units
pub mod Decimal
pub mod Scaling
pub mod Plain
