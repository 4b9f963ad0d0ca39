mod Keeping
mod Moves
mod Readings
mod Streams
mod Snapping
mod Finishing
mod Pieces
mod Telling
