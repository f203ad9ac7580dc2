mod Collected
mod Numbers
mod Printing
mod Replying
mod Running
mod Lent
