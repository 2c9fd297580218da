pub mod ModelSplice
pub mod TermsReplaced
