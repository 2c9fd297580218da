pub mod ModelUnions
