pub mod ModelIncidence
