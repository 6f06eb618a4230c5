mod Counts
mod Kept
mod Meaning
mod Panels
mod Readable
mod Rows
mod ShortRows
mod Toml
