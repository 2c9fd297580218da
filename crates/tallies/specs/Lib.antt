pub mod ModelTallies
