mod Crossing
mod Fresh
mod Rooms
mod Sharing
mod Threads
