-- Parts of rows; a block fits a word; sums in blocks.
pub mod Parts
pub mod Word
pub mod Blocks
