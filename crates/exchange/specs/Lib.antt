pub mod ModelRow
pub mod ModelCircuit
pub mod ModelUncross
pub mod ModelSwap
pub mod ModelPrices
pub mod ModelLevels
pub mod ModelJoin
