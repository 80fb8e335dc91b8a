pub mod Wins
pub mod Winners
pub mod Facts
pub mod LastRows
pub mod WinnerLaws
