pub mod RecordLayoutAnswer
pub mod RecordLayoutClaims
