pub mod Terms
pub mod TermsFirst
pub mod TermsReading
pub mod TermsRefusal
