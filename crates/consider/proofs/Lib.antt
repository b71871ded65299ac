mod Marked
mod Considered
