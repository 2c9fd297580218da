pub mod ModelCells
