pub mod ModelHolders
