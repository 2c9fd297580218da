pub mod TermsConsolePlan
pub mod TermsConsoleCertify
