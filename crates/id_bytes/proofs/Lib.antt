pub mod IdBytes
