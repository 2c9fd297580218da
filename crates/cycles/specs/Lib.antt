pub mod ModelFound
pub mod ModelTrails
