mod Submits
mod Refusals
mod Attended
