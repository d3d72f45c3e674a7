pub mod Reply6
