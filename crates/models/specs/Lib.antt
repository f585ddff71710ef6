pub mod Counts
pub mod Histogram
pub mod Markov
