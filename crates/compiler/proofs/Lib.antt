mod Plans
mod Calls
