pub mod Campaigned
