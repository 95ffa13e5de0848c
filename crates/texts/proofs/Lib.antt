pub mod Filling
pub mod NumberSteps
pub mod PieceSteps
