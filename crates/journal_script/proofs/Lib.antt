pub mod Growing
pub mod Steps
pub mod Whole
pub mod Notes
mod Feeds
pub mod LastByte
pub mod LinesRead
pub mod UpToListen
pub mod Contents
pub mod Journals
pub mod Boards
pub mod Moments
mod MessageText
mod NoTree
mod NotJson
mod Unheard
mod Spoiled
pub mod Cuts
mod HeadWords
mod HeadLines
pub mod Declaring
pub mod HeadLaw
pub mod OneScript
