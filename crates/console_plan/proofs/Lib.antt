pub mod PlanAnswers
pub mod CertifyAnswers
