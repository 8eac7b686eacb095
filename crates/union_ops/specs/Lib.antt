pub mod Choices
pub mod Union
pub mod ColumnNames
pub mod UnionTable
