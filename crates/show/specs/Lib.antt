pub mod TermsShow
