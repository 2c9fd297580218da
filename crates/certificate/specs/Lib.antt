pub mod TermsCertificate
pub mod ModelCertificate
pub mod TermsCertify
