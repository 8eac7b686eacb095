pub mod CsvUtf8
pub mod CsvCells
pub mod CsvTable
pub mod CsvRecords
pub mod CsvText
pub mod CsvReading
