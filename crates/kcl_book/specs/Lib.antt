pub mod Tenures
