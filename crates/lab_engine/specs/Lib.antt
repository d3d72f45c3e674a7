pub mod Lab
pub mod Next
pub mod Output
pub mod Preparations
pub mod Progress
pub mod Run
