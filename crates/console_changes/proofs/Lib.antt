pub mod ChangeAnswers
