mod Changes
mod Joins
mod Rows
