pub mod TermsConsoleRecords
