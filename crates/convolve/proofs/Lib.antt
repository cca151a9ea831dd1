-- The output; the two layouts; the product; rings that can be mixed.
pub mod Output
pub mod Layouts
pub mod Product
pub mod Rings
