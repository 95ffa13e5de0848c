pub mod HeadSteps
pub mod LineSteps
pub mod Mapped
pub mod NameSteps
pub mod Refusing
