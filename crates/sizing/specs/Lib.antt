pub mod ModelSizing
