pub mod RecordLayout
pub mod RecordLayoutFaults
