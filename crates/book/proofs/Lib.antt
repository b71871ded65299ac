pub mod Laws
pub mod Inside
