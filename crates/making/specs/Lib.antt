pub mod TermsMaking
