mod Quiet
mod Staying
mod Stepwise
mod Coming
mod Joining
