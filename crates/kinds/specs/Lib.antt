pub mod Pairs
pub mod BranchNumbers
pub mod StockRows
pub mod TextLines
pub mod Fingerprints
pub mod Pairing
pub mod PrintLaws
pub mod LineLaws
