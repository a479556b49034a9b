pub mod Shown
pub mod Inside
pub mod Fitting
pub mod TreeCode
pub mod Binding
pub mod Environments
pub mod Shapes
