pub mod FieldFaults
pub mod HeadExact
pub mod HeadSteps
pub mod NumberFields
