mod Counts
mod Decided
mod Streams
mod Texts
