pub mod Reply4
pub mod Reply6
