pub mod ModelImprove
