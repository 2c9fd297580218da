pub mod RecordLengths
