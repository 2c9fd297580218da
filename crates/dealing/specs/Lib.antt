pub mod ModelDeal
pub mod ModelBisect
pub mod ModelSize
