mod Columns
mod Walks
