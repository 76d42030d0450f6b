mod Lasts
mod Runs
mod Views
