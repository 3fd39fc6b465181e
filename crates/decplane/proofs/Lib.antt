mod Reading
mod Going
mod Loops
