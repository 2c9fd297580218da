pub mod RecordNumber
