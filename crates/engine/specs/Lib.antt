pub mod Frames
pub mod Loops
pub mod Courses
