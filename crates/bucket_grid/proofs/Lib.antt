pub mod Numbers
pub mod RisingNumbers
pub mod SharedPoints
pub mod SlabLemmas
pub mod MadeRects
pub mod Growth
pub mod OnTheWay
pub mod ListLemmas
