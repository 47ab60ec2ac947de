mod Drawn
mod Expiries
mod Headlines
mod Ordered
mod Quiet
mod Reports
mod Runs
