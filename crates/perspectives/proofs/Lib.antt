mod Found
mod Primaries
