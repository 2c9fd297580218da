pub mod ModelEvens
