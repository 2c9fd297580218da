pub mod TermsMoves
