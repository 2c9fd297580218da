pub mod ModelWays
