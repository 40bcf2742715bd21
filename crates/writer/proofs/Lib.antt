mod Puts
mod Writes
