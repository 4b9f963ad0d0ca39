pub mod Utf8
mod Reading
mod Tables
mod ReadBack
mod Choices
mod Taking
mod TableTaken
mod ItemTaken
