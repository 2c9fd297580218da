pub mod TermsConsoleLayouts
pub mod TermsConsoleLosses
