-- The definitions of snap_picture, by their modules.
pub mod Escape
pub mod Window
pub mod Elements
pub mod ShapeText
pub mod FrameText
pub mod Crossed
pub mod Picture
pub mod LastPlaces
pub mod Shapes
pub mod ShapeLines
