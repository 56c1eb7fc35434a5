pub mod Betters
