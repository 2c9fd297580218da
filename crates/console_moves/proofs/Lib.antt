pub mod MovesTold
