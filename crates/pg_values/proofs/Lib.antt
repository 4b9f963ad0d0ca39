mod Numbers
mod Orders
mod Uuids
