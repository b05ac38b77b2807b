pub mod Bytes
mod Numbers
mod Places
mod Ends
mod Rights
mod Shapes
pub mod Handing
mod Digests
mod Steps
mod Refusals
mod Headers
pub mod Fits
mod Reached
mod Wholes
pub mod Different
pub mod Lengths
