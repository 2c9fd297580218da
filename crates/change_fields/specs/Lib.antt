pub mod RecordChange
