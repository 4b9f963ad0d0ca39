mod Kept
mod Uses
mod Worked
