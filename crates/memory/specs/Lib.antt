pub mod Locations
pub mod Sizes
pub mod Stores
pub mod TagBytes
