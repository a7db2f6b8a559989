pub mod Fields
pub mod LittleEndian
