mod Apart
mod Created
mod Growing
mod LawsKept
mod Taken
mod Waiting
