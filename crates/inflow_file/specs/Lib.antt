pub mod CsvRecords
pub mod Entries
pub mod FaultNames
pub mod Cells
pub mod Columns
pub mod Given
pub mod RecordsLeft
pub mod SeriesFaults
