pub mod ModelCircuits
