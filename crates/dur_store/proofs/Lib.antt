pub mod Nothing
mod Places
mod Lists
mod Writers
mod Wholes
mod HeldLists
mod Takings
mod Rooms
mod Steps
mod Entries
mod Known
mod Counted
mod Refusing
