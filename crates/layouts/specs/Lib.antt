pub mod ModelScans
pub mod TermsCheck
