pub mod ModelRun
