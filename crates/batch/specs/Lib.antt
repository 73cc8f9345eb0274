pub mod Pieces
pub mod Numbers
pub mod Grammar
pub mod Parts
pub mod Forms
pub mod Reads
pub mod Sheets
pub mod Samples
