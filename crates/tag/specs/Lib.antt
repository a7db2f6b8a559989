pub mod PointerTags
pub mod RandomBits
pub mod TagChoice
