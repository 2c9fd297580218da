pub mod ModelWaves
