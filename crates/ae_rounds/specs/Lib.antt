pub mod Rounds
pub mod Laws
pub mod Flow
pub mod Works
pub mod FlowLaws
