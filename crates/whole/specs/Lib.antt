pub mod TermsWhole
