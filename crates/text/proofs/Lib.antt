mod Lending
mod Edited
mod Opening
