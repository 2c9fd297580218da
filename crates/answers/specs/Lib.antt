pub mod TermsAnswers
pub mod TermsStopped
