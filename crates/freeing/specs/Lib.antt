pub mod ModelFreed
