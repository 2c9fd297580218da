pub mod ModelTags
pub mod RecordField
