pub mod Laws
pub mod Signs
