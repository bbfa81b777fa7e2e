mod Answered
mod Entries
