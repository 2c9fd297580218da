pub mod ModelSteps
