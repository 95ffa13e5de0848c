pub mod Refusals
pub mod Meant
