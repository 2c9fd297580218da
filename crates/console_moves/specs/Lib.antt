pub mod TermsConsoleMoves
