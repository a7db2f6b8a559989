pub mod FieldText
pub mod Inside
pub mod Templates
