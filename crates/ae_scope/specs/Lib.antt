pub mod Slots
pub mod Trail
pub mod Scope
pub mod Grows
