mod Stops
mod OneAnswer
mod Refused
