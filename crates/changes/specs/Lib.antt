pub mod TermsChanges
pub mod TermsUndo
