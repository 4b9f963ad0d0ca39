mod BadRows
mod Good
mod Growing
mod Putting
mod Taking
