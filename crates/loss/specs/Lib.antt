pub mod TermsLoss
pub mod TermsLossAnswer
pub mod TermsLossExamples
pub mod ModelSearch
