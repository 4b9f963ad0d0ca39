pub mod Answer
pub mod Body
pub mod Plain
pub mod Page
pub mod ShapeHistory
pub mod Laws
pub mod Buffer
pub mod Reading
