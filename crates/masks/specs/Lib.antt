pub mod ModelMasks
