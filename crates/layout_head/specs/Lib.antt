pub mod ModelReading
pub mod RecordHead
pub mod RecordHeadFaults
