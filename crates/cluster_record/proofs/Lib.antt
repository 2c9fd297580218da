pub mod Walked
pub mod Answers
pub mod RecordBytes
pub mod Sound
pub mod Complete
pub mod Exactly
pub mod Longest
