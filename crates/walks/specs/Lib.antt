pub mod ModelWalks
