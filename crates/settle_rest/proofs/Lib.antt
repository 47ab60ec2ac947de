mod Arming
mod ReadyNumbers
