mod Told
mod Places
