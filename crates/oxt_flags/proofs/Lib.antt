mod Words
mod Rules
mod Uses
mod Turns
mod Walks
mod Command
mod Lookups
