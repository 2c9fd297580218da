pub mod ModelDeciding
