pub mod ModelCaps
