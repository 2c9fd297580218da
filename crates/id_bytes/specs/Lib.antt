pub mod RecordIds
