-- Read Tokens, Grammar, Within, Names, Frames, Image, Compiled and Theorem, with the examples in Worked.
-- Machine and Limits say at which token a text is refused, and Words how a refusal is printed.
pub mod Causes
pub mod Words
pub mod Tokens
pub mod Grammar
pub mod Machine
pub mod Limits
pub mod Within
pub mod Names
pub mod Frames
pub mod Image
pub mod Compiled
pub mod Theorem
pub mod Worked
