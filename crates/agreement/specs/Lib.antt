pub mod ModelAgreement
