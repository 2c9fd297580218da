pub mod TermsConsoleChanges
