pub mod CsvCells
pub mod CsvTable
pub mod CsvText
pub mod CsvUtf8
