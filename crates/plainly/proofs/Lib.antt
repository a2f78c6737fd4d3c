mod Answered
mod Kept
