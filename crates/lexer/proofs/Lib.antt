mod Scans
mod One
