-- Room for every page; a part's bytes; one text for each sheet; the first bytes decide; which numbers are never printed.
pub mod Rooms
pub mod Parts
pub mod OneAnswer
pub mod FirstBytes
pub mod NeverPrinted
