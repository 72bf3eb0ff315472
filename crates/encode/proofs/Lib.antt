-- Lemmas on encoding.
pub mod Fits
pub mod Marks
pub mod RoundTrip
pub mod Tables
