pub mod Loops
pub mod Codec
pub mod Places
pub mod Lists
pub mod Choice
pub mod Wholes
