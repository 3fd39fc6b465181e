mod InTurn
mod Passes
mod Planes
mod Slices
