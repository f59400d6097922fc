pub mod Added
pub mod AllAnswered
mod AnswersHeard
mod AnswersMade
mod Behind
mod Beginnings
mod BytesHanded
mod ChannelsClosed
mod ChannelsHeard
mod ChannelsMoved
mod ChannelsOpened
mod ClosesPassed
mod ClosesReleased
pub mod DataHeard
mod Drawn
pub mod DueKept
mod FewListed
mod FrameHeard
mod Freed
mod GivenOut
mod Heard
mod HeldRoom
mod Judged
mod Kept
pub mod KnownOf
mod LetGo
mod MessagesSent
mod MessagesTaken
mod MovesHeard
mod Naming
mod OldestFound
pub mod OnWay
mod OneTunnel
mod Passed
mod Pulled
mod Putting
mod Readings
mod Reread
mod Sizes
pub mod Still
mod Telling
mod ToldOf
mod TunnelsAsked
mod TunnelsAttached
mod TunnelsHeard
mod TunnelsRefused
mod WholeHeard
mod MainRoom
mod Worded
mod Wrote
