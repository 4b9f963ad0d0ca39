pub mod Settings
pub mod Script
pub mod Tables
pub mod Played
pub mod Playing
pub mod Headline
pub mod Replaying
