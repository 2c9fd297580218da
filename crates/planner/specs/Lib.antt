pub mod TermsPlan
