pub mod TermsExamples
pub mod TermsCeilings
pub mod ModelExamples
