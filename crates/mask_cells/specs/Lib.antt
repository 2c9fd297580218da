pub mod ModelMaskCells
