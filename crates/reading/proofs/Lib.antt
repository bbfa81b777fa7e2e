mod Layers
mod Quotients
mod Rounds
