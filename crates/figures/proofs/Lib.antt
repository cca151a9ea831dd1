-- A search through small rings, and the table of figures.
pub mod Search
pub mod Figures
