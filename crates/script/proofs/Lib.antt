mod Splitting
mod Opening
mod Steps
