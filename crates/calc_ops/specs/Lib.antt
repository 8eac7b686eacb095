pub mod Keys
pub mod EachRow
pub mod KeyOrder
pub mod EarlyRows
pub mod Islands
