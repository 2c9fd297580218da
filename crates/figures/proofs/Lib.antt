pub mod FigureWalk
pub mod HopeBound
