pub mod ColumnLaws
pub mod DueLaws
pub mod FieldLaws
pub mod GapLaws
pub mod RecordLaws
pub mod RunLaws
pub mod TableLaws
mod Words
